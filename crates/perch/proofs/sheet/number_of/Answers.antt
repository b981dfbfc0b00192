use Prim.Native.Nat.{ℕ}
use mathlib.Core.Path.{◌≡◌, refl, sym, ap, ◌∙◌}
use mathlib.Core.Bool.{Bool, true, false}
use mathlib.Core.List.{List}
use lib.Dec.{eqb}
use lib.ListN.{length}
use borrow.Author.Tests.{eqb-true}
use Rattle.arith.specs.Pick.{pick}
use Rattle.chip_sheet.specs.declared.Written.{Written}
use Rattle.chip_sheet.specs.Sheet.{sheet_answer, sheet_number}
use Rattle.perch_sheet.specs.Report.{sheet_refusal}
use Rattle.perch.proofs.sheet.number_of.Goals as goal

answered : (k n : ℕ) (b : Bool) → eqb k 0 ≡ b → (pick {A = Written} b (record { number = 0; length = n }) (record { number = k; length = 0 })).number ≡ k
answered k n true e = sym (eqb-true k 0 e)
answered k n false e = refl

number_is : (m : List ℕ) (l a n : ℕ) (buffer : List ℕ) → length buffer ≡ 4081 → (sheet_answer m l a n buffer).number ≡ sheet_refusal m l a n
unfolding sheet_answer
number_is m l a n buffer e = answered (sheet_number m l a n (length buffer)) n _ refl ∙ ap (sheet_number m l a n) e

pub returns : goal.returns
returns c =
    let a = c.args in
    ap (λ (w : Written). w.number) c.sheet-w.ensures.value ∙ number_is a.memory.now a.level a.address a.size _ refl
