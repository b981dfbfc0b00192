use Prim.Native.Nat.{ℕ, ◌+◌}
use mathlib.Core.Path.{refl, sym, ap, ◌∙◌}
use mathlib.Core.List.{List, [], ◌∷◌}
use native.Mathlib.Nat.{add-zero}
use native.Mathlib.Omega.{arith}
use lib.ListN.{length}
use lib.Seq.{sets}
use Rattle.text_place.specs.Shown.{blank}
use Rattle.text_place.proofs.Spelled.{spell_room, spell_step, spell_end, blank_none, blank_more}
use Rattle.text_place.proofs.shown.blank.Goals as goal

pub loop-c-init : goal.loop-c-init
loop-c-init c = (omega arith, refl, refl, refl)

pub blank_byte-place-requires : goal.blank_byte-place-requires
blank_byte-place-requires c =
    let s = c.args.s.now in
    let l = c.loop-c in
    spell_room blank (λ (c : ℕ). blank (c ∷ [])) blank_none blank_more s l.c-index (omega arith) l.place (length l.out) (omega (arith, l.invariant.1, l.invariant.2, c.requires))

pub loop-c-preserved : goal.loop-c-preserved
loop-c-preserved c =
    let s = c.args.s.now in
    let l = c.loop-c in
    let e = c.blank_byte-place in
    let n = spell_step blank (λ (c : ℕ). blank (c ∷ [])) blank_none blank_more s l.c-index (omega arith) l.out l.place _ _ l.invariant.2 l.invariant.3 e.result e.new.out e.ensures.value e.ensures.out_after in
    (omega arith, n.0 ∙ l.invariant.1, n.1, n.2)

pub shape_of-out : goal.shape_of-out
shape_of-out c = c.loop-c.invariant.1

pub returns : goal.returns
returns c =
    let s = c.args.s.now in
    let l = c.loop-c in
    let e = spell_end blank (λ (c : ℕ). blank (c ∷ [])) blank_none blank_more s l.c-index (omega arith) in record { value = sym (add-zero l.place) ∙ (ap (λ (z : List ℕ). l.place + length z) (sym e) ∙ l.invariant.2); out_after = ap (λ (z : List ℕ). sets l.out l.place z) (sym e) ∙ l.invariant.3 }
