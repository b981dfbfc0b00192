use Prim.Native.Nat.{◌+◌, ◌-◌}
use mathlib.Core.Path.{◌≡◌, refl, ◌∙◌}
use native.Mathlib.Omega.{arith}
use Rattle.play_meter.proofs.WalkLaws.{walk_start_lem, walk_on, walk_left, told_whole}
use Rattle.play_meter.proofs.walk.Goals as goal

pub loop-init : goal.loop-init
loop-init c = rw (c.at_level-span.ensures, c.from.ensures, c.level.ensures, c.start-m.ensures) (walk_start_lem c.args.log.now c.args.memory.now c.requires.log_value.0)

pub met_on-h-requires-clause-memory_len : goal.met_on-h-requires-clause-memory_len
met_on-h-requires-clause-memory_len c = (c.requires.log_value.1, c.step-w.ensures.state_value c.loop.invariant.ranged)

pub returns-then-h : goal.returns-then-h
returns-then-h c =
    let a = c.args in
    let l = c.loop in
    let p = c.step-w in
    let f = c.met_on-h in
    let o = walk_on a.log.now a.memory.now l.m l.span (2000002 - l.counter) l.invariant p.result p.ensures.value f.result f.ensures.value f.ensures.state_value in
    c.told.ensures.value ∙ told_whole a.log.now a.memory.now f.result.span (o.over c.if-h.true)

pub loop-preserved : goal.loop-preserved
loop-preserved c =
    let a = c.args in
    let l = c.loop in
    let p = c.step-w in
    let f = c.met_on-h in
    let o = walk_on a.log.now a.memory.now l.m l.span (2000002 - l.counter) l.invariant p.result p.ensures.value f.result f.ensures.value f.ensures.state_value in
    let e : 2000002 - (l.counter + 1) ≡ 2000002 - l.counter - 1 = omega arith in
    rw (c.moment_of-m.ensures, e) (o.on c.if-h.false p.result.moment.time)

pub returns : goal.returns
returns c = walk_left c.args.log.now c.args.memory.now c.loop.m c.loop.span (2000002 - c.loop.counter) c.loop.invariant (omega (arith, c.loop-test.false))
