use native.Mathlib.Omega.{arith}
use Prim.Native.Nat.{◌-◌}
use Rattle.play_step.proofs.TakenLaws.{step_took}
use Rattle.play.proofs.LoopLaws.{standing_start, standing_on, standing_answer}
use Rattle.play.proofs.play_lines.Goals as goal

pub loop-q-init : goal.loop-q-init
loop-q-init c =
    let a = c.args in
    standing_start a.log.now a.memory.now a.p a.out.now c.requires.1 c.outcome-t.result c.outcome-t.ensures

pub overflow_add-count : goal.overflow_add-count
overflow_add-count c = omega (arith, (c.goes_on.ensures.0 c.loop-q-test.true).2)

pub loop-q-smaller : goal.loop-q-smaller
loop-q-smaller c = omega (arith, (c.goes_on.ensures.0 c.loop-q-test.true).2)

pub loop-q-preserved : goal.loop-q-preserved
loop-q-preserved c =
    let a = c.args in
    let l = c.loop-q in
    let g = c.goes_on.ensures.0 c.loop-q-test.true in
    let s = c.step-t in
    let f = c.loop-q.invariant.going.fine in
    standing_on a.log.now a.memory.now a.p a.out.now l.t l.count l.out l.invariant g.0 g.1 s.new.out s.result
    (step_took a.log.now a.memory.now l.t.player l.out l.t.at c.requires.0 f g.1 s.new.out s.result s.ensures.value s.ensures.out_after (s.ensures.state_value f))

pub shape_of-out : goal.shape_of-out
shape_of-out c = c.loop-q.invariant.going.long

pub returns : goal.returns
returns c =
    let a = c.args in
    let l = c.loop-q in
    let g = c.goes_on.ensures.1 c.loop-q-test.false in
    standing_answer a.log.now a.memory.now a.p a.out.now l.t l.count l.out l.invariant g c.answer.result c.answer.ensures
