-- Both measures are twice the bytes left, the block's one more; the loop's invariant: the totals so far and the answer from i on make the block's. A turn is `turn`, a line `part_of`. Assumes nothing.
use Prim.Native.Nat.{◌+◌, ◌-◌, ◌*◌, ◌≤◌}
use mathlib.Core.Path.{◌≡◌}
use lib.ListN.{length}
use Rattle.log_rules.specs.Block.{block_answer, read_block, Small}
use Rattle.log_rules.proofs.Descent.{plus}
use Rattle.log_block.proofs.+read_block_read_line.Given as goal

abbrev pub decreases-read_block : goal.decreases-read_block
decreases-read_block l = 2 * (length l.log.now - l.at) + 1

abbrev pub decreases-read_line : goal.decreases-read_line
decreases-read_line l = 2 * (length l.log.now - l.at)

abbrev pub invariant-read_block-loop-next : goal.invariant-read_block-loop-next
invariant-read_block-loop-next l =
    Small l.t × (block_answer (read_block l.log l.at l.depth) ≡ plus l.t (block_answer (read_block l.log l.i l.depth))) × (l.at ≤ l.i)

abbrev pub decreases-read_block-loop-next : goal.decreases-read_block-loop-next
decreases-read_block-loop-next l = length l.log - l.i
