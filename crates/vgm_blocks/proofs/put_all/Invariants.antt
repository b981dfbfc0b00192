-- The loop's invariant: what is left over the memory so far is the whole; no block that is left is at fault.
use Prim.Native.Nat.{ℕ, ◌-◌, ◌≤◌}
use mathlib.Core.Path.{◌≡◌}
use lib.ListN.{length}
use Rattle.vgm_blocks.specs.Blocks.{front_blocks, judged, fill_all}
use Rattle.vgm_blocks.proofs.FuelLaws.{rest_of}
use Rattle.vgm_blocks.proofs.put_all.Given as goal

abbrev pub invariant-loop-next : goal.invariant-loop-next
invariant-loop-next l =
    (l.at ≤ length l.stream) × (length l.memory ≡ length l.initial.memory) × ((n : ℕ) × ((judged (rest_of l.stream l.at) n).number ≡ 0)) × (fill_all (rest_of l.stream l.at) l.memory ≡ fill_all (front_blocks l.stream) l.initial.memory)

abbrev pub decreases-loop-next : goal.decreases-loop-next
decreases-loop-next l = length l.stream - l.at
