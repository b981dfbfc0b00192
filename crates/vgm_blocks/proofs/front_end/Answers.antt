use Prim.Native.Nat.{◌-◌}
use mathlib.Core.Path.{sym, ap, ◌∙◌}
use native.Mathlib.Omega.{arith}
use Rattle.vgm_blocks.proofs.BlockLaws.{behind_some, behind_over, block_on}
use Rattle.vgm_blocks.proofs.FuelLaws.{end_of, end_front, end_next, end_over}
use Rattle.vgm_blocks.proofs.front_end.Goals as goal

pub loop-next-init : goal.loop-next-init
loop-next-init c = (omega arith, sym (end_front _))

pub loop-next-smaller : goal.loop-next-smaller
loop-next-smaller c =
    let s = c.args.stream.now in
    let at = c.loop-next.at in
    let b = behind_some s at c.in-Some.next c.in-Some.ensures in
    let on = block_on s at b.0 c.in-Some.next b.1 in
    omega (arith, on.0, on.1)

pub loop-next-preserved : goal.loop-next-preserved
loop-next-preserved c =
    let s = c.args.stream.now in
    let at = c.loop-next.at in
    let b = behind_some s at c.in-Some.next c.in-Some.ensures in
    ((block_on s at b.0 c.in-Some.next b.1).1, ap (end_of s) b.1 ∙ sym (end_next s at b.0) ∙ c.loop-next.invariant.1)

pub returns : goal.returns
returns c =
    let s = c.args.stream.now in
    sym (end_over s c.loop-next.at (behind_over s c.loop-next.at c.in_default.ensures)) ∙ c.loop-next.invariant.1
