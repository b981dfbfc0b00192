use Prim.Native.Nat.{◌-◌}
use mathlib.Core.List.{List}
use mathlib.Core.Path.{sym, ap, ◌∙◌}
use native.Mathlib.Omega.{arith}
use Rattle.vgm_blocks.specs.Blocks.{Block, judged}
use Rattle.vgm_blocks.proofs.BlockLaws.{behind_some, behind_over, block_on}
use Rattle.vgm_blocks.proofs.FuelLaws.{rest_front}
use Rattle.vgm_blocks.proofs.JudgeLaws.{fault_here, judge_sample, judge_other, judge_end}
use Rattle.vgm_blocks.proofs.judge.Goals as goal

pub loop-next-init : goal.loop-next-init
loop-next-init c = (omega arith, omega arith, ap (λ (l : List Block). judged l 0) (sym (rest_front _)))

pub is_fault-requires : goal.is_fault-requires
is_fault-requires c = (behind_some c.args.stream.now c.loop-next.at c.in-Some.next c.in-Some.ensures).0

pub returns-then-is_fault : goal.returns-then-is_fault
returns-then-is_fault c =
    let s = c.args.stream.now in
    let l = c.loop-next in
    let b = behind_some s l.at c.in-Some.next c.in-Some.ensures in
    sym (fault_here s l.at b.0 l.n (sym c.is_fault.ensures ∙ c.if-is_fault.true)) ∙ l.invariant.2

pub loop-next-smaller-then-is_sample : goal.loop-next-smaller-then-is_sample
loop-next-smaller-then-is_sample c =
    let s = c.args.stream.now in
    let l = c.loop-next in
    let b = behind_some s l.at c.in-Some.next c.in-Some.ensures in
    let on = block_on s l.at b.0 c.in-Some.next b.1 in
    omega (arith, on.0, on.1)

pub loop-next-preserved-then-is_sample : goal.loop-next-preserved-then-is_sample
loop-next-preserved-then-is_sample c =
    let s = c.args.stream.now in
    let l = c.loop-next in
    let b = behind_some s l.at c.in-Some.next c.in-Some.ensures in
    let on = block_on s l.at b.0 c.in-Some.next b.1 in (
      on.1,
      omega (arith, on.0, l.invariant.1),
      judge_sample s l.at b.0 l.n c.in-Some.next (sym c.is_fault.ensures ∙ c.if-is_fault.false) (sym c.is_sample.ensures ∙ c.if-is_sample.true) b.1 ∙ l.invariant.2,
    )

pub loop-next-smaller : goal.loop-next-smaller
loop-next-smaller c =
    let s = c.args.stream.now in
    let l = c.loop-next in
    let b = behind_some s l.at c.in-Some.next c.in-Some.ensures in
    let on = block_on s l.at b.0 c.in-Some.next b.1 in
    omega (arith, on.0, on.1)

pub loop-next-preserved : goal.loop-next-preserved
loop-next-preserved c =
    let s = c.args.stream.now in
    let l = c.loop-next in
    let b = behind_some s l.at c.in-Some.next c.in-Some.ensures in
    let on = block_on s l.at b.0 c.in-Some.next b.1 in (
      on.1,
      omega (arith, on.0, l.invariant.1),
      judge_other s l.at b.0 l.n c.in-Some.next (sym c.is_fault.ensures ∙ c.if-is_fault.false) (sym c.is_sample.ensures ∙ c.if-is_sample.false) b.1 ∙ l.invariant.2,
    )

pub returns : goal.returns
returns c =
    let s = c.args.stream.now in
    let l = c.loop-next in
    sym (judge_end s l.at l.n (behind_over s l.at c.in_default.ensures)) ∙ l.invariant.2
