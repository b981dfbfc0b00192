use Prim.Native.Nat.{◌-◌}
use mathlib.Core.Path.{sym, ◌∙◌}
use native.Mathlib.Omega.{arith}
use Rattle.play_wav.proofs.LoopLaws.{goes_is, standing_start, standing_on, standing_answer}
use Rattle.play_wav.proofs.samples_on.Goals as goal

pub loop-out-init : goal.loop-out-init
loop-out-init c =
    let a = c.args in
    standing_start a.log.now a.memory.now a.w a.out.now c.taken_of-t.result c.taken_of-t.ensures

pub step_on-t-requires : goal.step_on-t-requires
step_on-t-requires c =
    let l = c.loop-out in
    let g = goes_is l.t _ l.count (sym c.goes_on.ensures ∙ c.loop-out-test.true) in
    omega (arith, g.1)

pub overflow_add-count : goal.overflow_add-count
overflow_add-count c =
    let l = c.loop-out in
    let g = goes_is l.t _ l.count (sym c.goes_on.ensures ∙ c.loop-out-test.true) in
    omega (arith, g.2)

pub loop-out-smaller : goal.loop-out-smaller
loop-out-smaller c =
    let l = c.loop-out in
    let g = goes_is l.t _ l.count (sym c.goes_on.ensures ∙ c.loop-out-test.true) in
    omega (arith, g.2)

pub loop-out-preserved : goal.loop-out-preserved
loop-out-preserved c =
    let a = c.args in
    let l = c.loop-out in
    let g = goes_is l.t _ l.count (sym c.goes_on.ensures ∙ c.loop-out-test.true) in
    let s = c.step_on-t in
    standing_on a.log.now a.memory.now a.w a.out.now l.t l.count l.out l.invariant (λ i. omega (arith, c.type_inv.memory i)) g.0 g.1 _ s.result
    s.ensures

pub shape_of-out : goal.shape_of-out
shape_of-out c = c.loop-out.invariant.going.long

pub returns : goal.returns
returns c =
    let a = c.args in
    let l = c.loop-out in
    standing_answer a.log.now a.memory.now a.w a.out.now l.t l.count l.out l.invariant (sym c.goes_on.ensures ∙ c.loop-out-test.false) c.answer.result
    c.answer.ensures
