use native.Mathlib.Omega.{arith}
use Rattle.text_place.proofs.Fronts.{rest_feed, rest_more, rest_none}
use Rattle.text_place.proofs.place.rest_length.Goals as goal

pub loop-i-init : goal.loop-i-init
loop-i-init c =
    (omega arith, omega arith)

pub returns-then-s-i-eq10 : goal.returns-then-s-i-eq10
returns-then-s-i-eq10 c =
    let s = c.args.s.now in
    let e = rest_feed s c.loop-i.i (omega arith) c.if-s-i-eq10.true in
    omega arith

pub loop-i-preserved : goal.loop-i-preserved
loop-i-preserved c =
    let s = c.args.s.now in
    let e = rest_more s c.loop-i.i (omega arith) c.if-s-i-eq10.false in
    (omega arith, omega arith)

pub returns : goal.returns
returns c =
    let s = c.args.s.now in
    let e = rest_none s c.loop-i.i (omega arith) in
    omega arith
