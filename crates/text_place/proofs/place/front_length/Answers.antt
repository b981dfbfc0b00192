use Prim.Native.Nat.{ℕ}
use mathlib.Core.Path.{refl, ap, ◌∙◌}
use mathlib.Core.List.{List}
use native.Mathlib.Omega.{arith}
use lib.ListN.{length}
use Rattle.text_place.specs.Place.{line_front}
use Rattle.text_place.proofs.Fronts.{front_none, front_more}
use lib.Seq.{take_all}
use Rattle.text_place.proofs.place.front_length.Goals as goal
use Rattle.text_place.proofs.place.front_length.Goals.{then-c-eq10, else-c-eq10}

pub loop-c-init : goal.loop-c-init
unfolding line_front
loop-c-init c =
    (omega arith, omega arith, refl)

pub loop-c-preserved : goal.loop-c-preserved
loop-c-preserved c =
    let s = c.args.s.now in
    let l = c.loop-c in
    elim c.if-c-eq10.branch [
      | then-c-eq10 w ↦ let e = front_none s l.c-index (omega arith) w.if-c-eq10.true in (omega arith, omega arith, omega arith)
      | else-c-eq10 w ↦ let e = front_more s l.c-index (omega arith) w.if-c-eq10.false in (omega arith, omega arith, omega arith)
    ]

pub returns : goal.returns
returns c =
    let s = c.args.s.now in
    let l = c.loop-c in
    l.invariant.2 ∙ ap (λ (x : List ℕ). length (line_front x)) (take_all l.c-index s (omega arith))
