-- The loop's invariant: what is left of the clocks, from the state and the levels so far, comes to what all of them come to; a run does one at least. Assumes nothing.
use mathlib.Core.Path.{◌≡◌}
use mathlib.Core.Bool.{true}
use lib.ListN.{length}
use Rattle.chip.specs.Range.{in_range}
use Rattle.play_meter.specs.Walking.{clocks_on}
use Rattle.play_meter.proofs.clocks_on.Given as goal

abbrev pub invariant-loop-left : goal.invariant-loop-left
invariant-loop-left l =
    (in_range l.state ≡ true) × (length l.words ≡ length l.initial.words) × (clocks_on l.memory l.left l.state l.heard ≡ clocks_on l.memory l.n l.initial.state l.initial.heard)

abbrev pub decreases-loop-left : goal.decreases-loop-left
decreases-loop-left l = l.left
