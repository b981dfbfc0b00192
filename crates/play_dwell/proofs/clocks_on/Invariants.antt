-- The loop's invariant: what is left of the clocks, from the state and the counts so far, comes to what all of them come to; a run does one at least, and
-- the sum of the counts grows by those that it does. Assumes nothing.
use Prim.Native.Nat.{◌+◌, ◌≤◌}
use mathlib.Core.Path.{◌≡◌}
use mathlib.Core.Bool.{true}
use lib.ListN.{length}
use Rattle.reading.specs.Counting.{sum}
use Rattle.chip.specs.Range.{in_range}
use Rattle.play_dwell.specs.Walking.{clocks_on}
use Rattle.play_dwell.proofs.clocks_on.Given as goal

abbrev pub invariant-loop-left : goal.invariant-loop-left
invariant-loop-left l =
    (in_range l.state ≡ true) × (length l.words ≡ length l.initial.words) × (length l.table ≡ 128) × (sum l.table + l.left ≤ 2000000000)
    × (clocks_on l.memory l.left l.state l.table ≡ clocks_on l.memory l.n l.initial.state l.initial.table)

abbrev pub decreases-loop-left : goal.decreases-loop-left
decreases-loop-left l = l.left
