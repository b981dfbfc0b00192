use native.Mathlib.Omega.{arith}
use Rattle.vgm_blocks.proofs.BlockLaws.{behind_more, block_within, held_part}
use Rattle.vgm_blocks.proofs.held.Goals as goal

pub overflow_add-result : goal.overflow_add-result
overflow_add-result c = omega (arith, block_within c.args.stream.now c.args.at c.requires, behind_more c.args.stream.now c.args.at)

pub overflow_add-result-2 : goal.overflow_add-result-2
overflow_add-result-2 c = overflow_add-result c

pub size_at-requires : goal.size_at-requires
size_at-requires c = omega (arith, block_within c.args.stream.now c.args.at c.requires, behind_more c.args.stream.now c.args.at)

pub overflow_add-result-3 : goal.overflow_add-result-3
overflow_add-result-3 c =
    omega (arith, c.size_at.ensures, block_within c.args.stream.now c.args.at c.requires, behind_more c.args.stream.now c.args.at)

pub slice_bounds-result-end : goal.slice_bounds-result-end
slice_bounds-result-end c =
    omega (arith, c.size_at.ensures, block_within c.args.stream.now c.args.at c.requires, behind_more c.args.stream.now c.args.at)

pub returns : goal.returns
returns c = rw (c.size_at.ensures, ← behind_more c.args.stream.now c.args.at) (held_part c.args.stream.now c.args.at c.requires)
