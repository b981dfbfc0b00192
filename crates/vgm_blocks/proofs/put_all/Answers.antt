use Prim.Native.Nat.{◌+◌, ◌-◌}
use mathlib.Core.List.{List}
use mathlib.Core.Path.{refl, sym, ap, ◌∙◌}
use native.Mathlib.Omega.{arith}
use Rattle.arith.specs.Pick.{pick}
use Rattle.vgm_blocks.specs.declared.Filled.{Filled}
use Rattle.vgm_blocks.specs.Blocks.{Block, block_at, is_sample, judged, fill_all}
use Rattle.vgm_blocks.proofs.BlockLaws.{behind_some, behind_over, block_on}
use Rattle.vgm_blocks.proofs.FillLaws.{fill_on, fill_over}
use Rattle.vgm_blocks.proofs.FuelLaws.{rest_front}
use Rattle.vgm_blocks.proofs.JudgeLaws.{judge_on, right_here}
use Rattle.vgm_blocks.proofs.put_all.Goals as goal

pub loop-next-init : goal.loop-next-init
loop-next-init c =
    let s = c.args.stream.now in
    let m = c.args.memory.now in (
      omega arith,
      refl,
      (0, ap (λ (l : List Block). (judged l 0).number) (sym (rest_front s)) ∙ c.requires.stream_value),
      ap (λ (l : List Block). fill_all l m) (sym (rest_front s)),
    )

pub put_block-requires : goal.put_block-requires
put_block-requires c =
    let s = c.args.stream.now in
    let l = c.loop-next in
    let b = behind_some s l.at c.in-Some.next c.in-Some.ensures in
    let here = b.0 in record { at_value = here; at_value_2 = right_here s l.at here l.invariant.2.0 l.invariant.2.1; memory_len = l.invariant.1 ∙ c.requires.memory_len }

pub loop-next-smaller : goal.loop-next-smaller
loop-next-smaller c =
    let s = c.args.stream.now in
    let l = c.loop-next in
    let b = behind_some s l.at c.in-Some.next c.in-Some.ensures in
    let here = b.0 in
    let on = block_on s l.at here c.in-Some.next b.1 in
    omega (arith, on.0, on.1)

pub loop-next-preserved : goal.loop-next-preserved
loop-next-preserved c =
    let s = c.args.stream.now in
    let l = c.loop-next in
    let b = behind_some s l.at c.in-Some.next c.in-Some.ensures in
    let here = b.0 in
    let right = right_here s l.at here l.invariant.2.0 l.invariant.2.1 in
    let count = pick (is_sample (block_at s l.at)) (l.invariant.2.0 + 1) l.invariant.2.0 in (
      (block_on s l.at here c.in-Some.next b.1).1,
      c.memory-1.given ∙ l.invariant.1,
      (count, ap (λ (r : Filled). r.number) (judge_on s l.at here l.invariant.2.0 count c.in-Some.next right refl b.1) ∙ l.invariant.2.1),
      fill_on s l.at here l.memory _ c.in-Some.next c.put_block.ensures b.1 ∙ l.invariant.3,
    )

pub returns : goal.returns
returns c =
    let s = c.args.stream.now in
    let l = c.loop-next in
    sym (fill_over s l.at l.memory (behind_over s l.at c.in_default.ensures)) ∙ l.invariant.3

pub shape_of-memory : goal.shape_of-memory
shape_of-memory c = c.loop-next.invariant.1
