-- The loop's invariant: squares and triangle so far, put back among all the channels (`lags_with`), are what the stretch holds (`Worked`). Assumes nothing.
use Prim.Native.Nat.{◌+◌, ◌-◌}
use mathlib.Core.Path.{◌≡◌}
use Rattle.chip.specs.declared.State.{State}
use Rattle.leap_stretch.specs.Voices.{lags_with}
use Rattle.leap_stretch.proofs.VoicesLaws.{Sound}
use Rattle.run_answer.specs.Run.{room_of}
use Rattle.run_loops.specs.Stretch.{Standing, Worked}
use Rattle.run.proofs.voices_on.Given as goal

abbrev pub invariant-loop-others : goal.invariant-loop-others
invariant-loop-others l =
    ((s : State) → Standing l.memory s l.end l.base l.initial.words l.first l.records
    → Worked l.memory s l.end l.base l.first.now l.records l.initial.words l.words (lags_with l.first l.v l.level) l.n)
    × (l.room ≡ room_of l.initial.words)
    × Sound l.v

abbrev pub decreases-loop-others : goal.decreases-loop-others
decreases-loop-others l = l.end + 1 - l.v.next
