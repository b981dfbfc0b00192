-- What is answered fits its bits, and each part of the number can be had again. Assumes nothing.
use Prim.Native.Nat.{ℕ, ◌/◌, ◌%◌, ◌^◌, ◌≤◌}
use mathlib.Core.Path.{◌≡◌, refl, sym, ap, ◌∙◌}
use mathlib.Core.List.{List}
use mathlib.Core.Bool.{Bool, true, false}
use native.Mathlib.Omega.{arith}
use borrow.Author.Tests.{eqb-true}
use lib.ListN.{length, take}
use lib.Dec.{eqb, ltb}
use Rattle.arith.specs.Pick.{pick}
use Rattle.log_rules.specs.Whole.{check_of}
use Rattle.log_rules.proofs.Limits.{check_limits}
use Rattle.log_passing.proofs.Passing.{clear}
use Rattle.log_fold.specs.declared.Folded.{Folded}
use Rattle.log_fold_rules.specs.Folding.{folded_log}
use Rattle.log_fold_rules.specs.Promise.{Folds}
use Rattle.log_fold.specs.Answer.{fold_refusal, fold_done, fold_of}
use Rattle.log_fold_rules.proofs.Passes.{folds}
use Rattle.c_log.proofs.PackedLaws.{apart}
use Rattle.c_fold.specs.Packed.{fold_packed}

pub record Limited (a : Folded) : Type 0 where
  pub number : a.number ≤ 32
  pub place : a.place ≤ 60000
  pub long : a.length ≤ 60000

pub fold_limits : (log out : List ℕ) → Limited (fold_of log out)
unfolding fold_of
fold_limits log out = go (eqb (check_of log).number 0) refl (ltb (length out) (length log))
  where
    go : (x : Bool) → eqb (check_of log).number 0 ≡ x → (y : Bool)
        → Limited (pick x (pick y (fold_refusal 32 0) (fold_done (length (folded_log log)))) (fold_refusal (check_of log).number (check_of log).place))
    go true e true = record { number = omega arith; place = omega arith; long = omega arith }
    go true e false =
        let z = eqb-true (check_of log).number 0 e in
        record { number = omega arith; place = omega arith; long = omega (arith, (folds log z).not_longer, (clear log z).short) }
    go false e y =
        let l = check_limits log in
        record { number = omega (arith, l.number); place = l.place; long = omega arith }

-- THE PARTS: the low 8 bits are the number, the 24 above them the place, those above them the length
pub parts : (log out : List ℕ)
    → (fold_packed log out % 2 ^ 8 ≡ (fold_of log out).number) × (fold_packed log out / 2 ^ 8 % 2 ^ 24 ≡ (fold_of log out).place) × (fold_packed log out / 2 ^ 32 ≡ (fold_of log out).length)
parts log out =
    let l = fold_limits log out in
    apart (fold_of log out).number (fold_of log out).place (fold_of log out).length (omega (arith, l.number)) (omega (arith, l.place))

-- a number that says 0 says how long the log is
pub packed_folds : (log out out' : List ℕ) (a : Folded) → a ≡ fold_of log out → (a.number ≡ 0 → Folds log (take a.length out'))
    → (r : ℕ) → r ≡ fold_packed log out → r % 2 ^ 8 ≡ 0 → Folds log (take (r / 2 ^ 32) out')
packed_folds log out out' a e h r f z =
    let p = parts log out in
    let n : (fold_of log out).number ≡ 0 = sym p.0 ∙ (ap (λ (x : ℕ). x % 2 ^ 8) (sym f) ∙ z) in
    let l : r / 2 ^ 32 ≡ a.length = ap (λ (x : ℕ). x / 2 ^ 32) f ∙ (p.2 ∙ sym (ap (λ (x : Folded). x.length) e)) in
    rw l (h (ap (λ (x : Folded). x.number) e ∙ n))
