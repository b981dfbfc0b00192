-- The loop's invariant: the end from here on is the end.
use Prim.Native.Nat.{◌-◌, ◌≤◌}
use mathlib.Core.Path.{◌≡◌}
use lib.ListN.{length}
use Rattle.vgm_blocks.specs.Blocks.{front_end}
use Rattle.vgm_blocks.proofs.FuelLaws.{end_of}
use Rattle.vgm_blocks.proofs.front_end.Given as goal

abbrev pub invariant-loop-next : goal.invariant-loop-next
invariant-loop-next l = (l.at ≤ length l.stream) × (end_of l.stream l.at ≡ front_end l.stream)

abbrev pub decreases-loop-next : goal.decreases-loop-next
decreases-loop-next l = length l.stream - l.at
