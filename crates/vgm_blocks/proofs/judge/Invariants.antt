-- The loop's invariant: what is left, judged with the count so far, is the answer; the count is at most the place.
use Prim.Native.Nat.{◌-◌, ◌≤◌}
use mathlib.Core.Path.{◌≡◌}
use lib.ListN.{length}
use Rattle.vgm_blocks.specs.Blocks.{front_blocks, judged}
use Rattle.vgm_blocks.proofs.FuelLaws.{rest_of}
use Rattle.vgm_blocks.proofs.judge.Given as goal

abbrev pub invariant-loop-next : goal.invariant-loop-next
invariant-loop-next l = (l.at ≤ length l.stream) × (l.n ≤ l.at) × (judged (rest_of l.stream l.at) l.n ≡ judged (front_blocks l.stream) 0)

abbrev pub decreases-loop-next : goal.decreases-loop-next
decreases-loop-next l = length l.stream - l.at
