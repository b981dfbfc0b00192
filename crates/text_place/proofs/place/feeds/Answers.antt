use native.Mathlib.Omega.{arith}
use Rattle.text_place.proofs.Fronts.{feeds_one, feeds_other, feeds_none}
use Rattle.text_place.proofs.place.feeds.Goals as goal
use Rattle.text_place.proofs.place.feeds.Goals.{then-c-eq10, else-c-eq10}

pub loop-c-init : goal.loop-c-init
loop-c-init c =
    (omega arith, omega arith, omega arith)

pub loop-c-preserved : goal.loop-c-preserved
loop-c-preserved c =
    let s = c.args.s.now in
    let l = c.loop-c in
    elim c.if-c-eq10.branch [
      | then-c-eq10 w ↦ let e = feeds_one s l.c-index (omega arith) w.if-c-eq10.true in (omega arith, omega arith, omega arith)
      | else-c-eq10 w ↦ let e = feeds_other s l.c-index (omega arith) w.if-c-eq10.false in (omega arith, omega arith, omega arith)
    ]

pub returns : goal.returns
returns c =
    let s = c.args.s.now in
    let e = feeds_none s c.loop-c.c-index (omega arith) in
    omega arith
