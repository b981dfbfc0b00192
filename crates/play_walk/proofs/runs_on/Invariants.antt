-- The loop's invariant: what is left of the clocks, from the state so far, leads to where all of them lead; a run does one at least. Assumes nothing.
use mathlib.Core.Path.{◌≡◌}
use mathlib.Core.Bool.{true}
use lib.ListN.{length}
use Rattle.arith.specs.Iterate.{iterate}
use Rattle.chip.specs.Clock.{chip_clock}
use Rattle.chip.specs.Range.{in_range}
use Rattle.play_walk.proofs.runs_on.Given as goal

abbrev pub invariant-loop-left : goal.invariant-loop-left
invariant-loop-left l =
    (in_range l.state ≡ true) × (length l.words ≡ length l.initial.words) × (iterate (chip_clock l.memory) l.left l.state ≡ iterate (chip_clock l.memory) l.n l.initial.state)

abbrev pub decreases-loop-left : goal.decreases-loop-left
decreases-loop-left l = l.left
