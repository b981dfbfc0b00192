use Prim.Native.Nat.{◌+◌, ◌-◌}
use mathlib.Core.Path.{◌≡◌, ◌∙◌}
use native.Mathlib.Omega.{arith}
use Rattle.play_at.proofs.WalkLaws.{walk_start_lem, walk_on, walk_left, step_fine}
use Rattle.play_at.proofs.walk.Goals as goal

pub loop-init : goal.loop-init
loop-init c =
    let a = c.args in
    rw c.start-m.ensures (walk_start_lem a.log.now a.memory.now a.clock c.requires.0)

pub met_to-t-requires : goal.met_to-t-requires
met_to-t-requires c =
    let a = c.args in
    let l = c.loop in
    let p = c.step-w in
    (c.requires.1, step_fine a.log.now a.memory.now a.clock l.m (2000002 - l.counter) l.invariant p.result p.ensures.value p.ensures.state_value)

pub returns-then-t : goal.returns-then-t
returns-then-t c =
    let a = c.args in
    let l = c.loop in
    let p = c.step-w in
    let f = c.met_to-t in
    let o = walk_on a.log.now a.memory.now a.clock l.m (2000002 - l.counter) l.invariant p.result p.ensures.value f.result f.ensures.value f.ensures.fine in record { value = c.at_of.ensures ∙ o.over c.if-t.true; state_value = rw c.at_of.ensures f.ensures.fine.ranged }

pub loop-preserved : goal.loop-preserved
loop-preserved c =
    let a = c.args in
    let l = c.loop in
    let p = c.step-w in
    let f = c.met_to-t in
    let o = walk_on a.log.now a.memory.now a.clock l.m (2000002 - l.counter) l.invariant p.result p.ensures.value f.result f.ensures.value f.ensures.fine in
    let e : 2000002 - (l.counter + 1) ≡ 2000002 - l.counter - 1 = omega arith in
    rw e (o.on c.if-t.false)

pub returns : goal.returns
returns c =
    let a = c.args in
    let l = c.loop in
    walk_left a.log.now a.memory.now a.clock l.m (2000002 - l.counter) l.invariant (omega (arith, c.loop-test.false))
