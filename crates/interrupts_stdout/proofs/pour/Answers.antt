use borrow.Author.Tests.{not-true, not-false}
use native.Mathlib.Omega.{arith}
use mathlib.Core.Path.{refl, sym, ◌∙◌}
use Rattle.lines_stdout.proofs.PourLaws.{pours_room}
use Rattle.interrupts_stdout.proofs.StepLaws.{held_start, none_left, Turned, turned, ends_there, cut_there, goes_on_lem}
use Rattle.interrupts_stdout.proofs.pour.Goals as goal

pub loop-left-init : goal.loop-left-init
loop-left-init c =
    let a = c.args in
    let g = c.requires in
    (refl, omega (arith, g.in_bounds), held_start a.log.now a.memory.now a.out.now _ g.memory_value (λ i. omega (arith, c.type_inv.memory i)) c.start-p.ensures)

pub lines_on-at-requires : goal.lines_on-at-requires
lines_on-at-requires c = c.loop-left.invariant.1

pub shape_of-out-then-is_over : goal.shape_of-out-then-is_over
shape_of-out-then-is_over c = omega (arith, c.out-1.given, c.loop-left.invariant.0)

pub returns-then-is_over : goal.returns-then-is_over
returns-then-is_over c =
    let a = c.args in
    ends_there a.log.now a.memory.now c.step-w.result.next c.step-w.result.place c.loop-left.left c.lines_on-at.result c.lines_on-at.new.out
    (turned c.args.log.now c.args.memory.now c.loop-left.p c.loop-left.left c.loop-left.at c.loop-left.out c.loop-left.invariant.2 c.step-w.result c.step-w.ensures.value c.loop-left.invariant.1 _ _ c.lines_on-at.ensures) c.write_front.result (sym c.is_over.ensures ∙ c.if-is_over.true) c.write_front.ensures

pub shape_of-out-then-not-q : goal.shape_of-out-then-not-q
shape_of-out-then-not-q c = omega (arith, c.out-1.given, c.loop-left.invariant.0)

pub returns-then-not-q : goal.returns-then-not-q
returns-then-not-q c =
    let a = c.args in
    cut_there a.log.now a.memory.now c.step-w.result.next c.step-w.result.place c.loop-left.left c.lines_on-at.result c.lines_on-at.new.out
    (turned c.args.log.now c.args.memory.now c.loop-left.p c.loop-left.left c.loop-left.at c.loop-left.out c.loop-left.invariant.2 c.step-w.result c.step-w.ensures.value c.loop-left.invariant.1 _ _ c.lines_on-at.ensures) c.pour-q.result.at c.pour-q.result.written c.pour-q.ensures (not-true _ c.if-not-q.true)

pub overflow_sub-left : goal.overflow_sub-left
overflow_sub-left c = omega (arith, c.loop-left-test.true)

pub loop-left-smaller : goal.loop-left-smaller
loop-left-smaller c = omega (arith, c.loop-left-test.true)

pub loop-left-preserved : goal.loop-left-preserved
loop-left-preserved c =
    let a = c.args in
    let l = c.loop-left in
    let q = c.pour-q in (
      omega (arith, c.out-1.given, l.invariant.0),
      pours_room _ _ 96 q.result.at q.result.written q.ensures (omega (arith, c.out-1.given, l.invariant.1)),
      goes_on_lem a.log.now a.memory.now c.step-w.result.next c.step-w.result.place c.loop-left.left c.lines_on-at.result c.lines_on-at.new.out
          (turned c.args.log.now c.args.memory.now c.loop-left.p c.loop-left.left c.loop-left.at c.loop-left.out c.loop-left.invariant.2 c.step-w.result c.step-w.ensures.value c.loop-left.invariant.1 _ _ c.lines_on-at.ensures) q.result.at q.result.written q.ensures (sym c.is_over.ensures ∙ c.if-is_over.false) (not-false _ c.if-not-q.false),
    )

pub shape_of-out : goal.shape_of-out
shape_of-out c = c.loop-left.invariant.0

pub returns : goal.returns
returns c =
    let a = c.args in
    let l = c.loop-left in
    absurd (omega (arith, none_left a.log.now a.memory.now _ l.p l.invariant.2.rest l.left l.invariant.2.stands, c.loop-left-test.false))
