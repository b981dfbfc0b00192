use Prim.Native.Nat.{ℕ, ◌+◌}
use mathlib.Core.Path.{refl, sym, ap, ◌∙◌}
use mathlib.Core.List.{List}
use native.Mathlib.Nat.{add-zero}
use native.Mathlib.Omega.{arith}
use lib.ListN.{length}
use lib.Seq.{sets}
use Rattle.perch_sheet.proofs.Texts.{lines_step, lines_end_lem}
use Rattle.perch_sheet.proofs.level_lines.Goals as goal

pub loop-level-init : goal.loop-level-init
loop-level-init c = (omega arith, refl, λ room. (refl, refl))

pub loop-level-preserved : goal.loop-level-preserved
loop-level-preserved c =
    let w = c.level_line-place in
    let l = c.loop-level in
    let s = c.args.levels.now in (
      omega arith,
      omega (arith, c.out-1.given, l.invariant.1),
      λ room.
          let v = l.invariant.2 room in
          rw c.address_after-a.ensures (lines_step l.a s l.level-index (omega arith) l.out l.place _ _ (omega (arith, l.invariant.1, room)) v.0 v.1 w.result w.new.out w.ensures),
    )

pub shape_of-out : goal.shape_of-out
shape_of-out c = c.loop-level.invariant.1

pub returns : goal.returns
returns c =
    let s = c.args.levels.now in
    let l = c.loop-level in
    let e = lines_end_lem l.a s l.level-index (omega arith) in
    λ room.
    let v = l.invariant.2 room in
    record {
      place = sym (add-zero l.place) ∙ (ap (λ (z : List ℕ). l.place + length z) (sym e) ∙ v.0);
      bytes = ap (λ (z : List ℕ). sets l.out l.place z) (sym e) ∙ v.1;
    }
