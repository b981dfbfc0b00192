-- The loop's invariant is `Worked`; a turn is an event of noise, squares or triangle, and then the loop of squares and triangle alone. Assumes nothing.
use Prim.Native.Nat.{◌+◌, ◌-◌}
use mathlib.Core.Path.{◌≡◌}
use Rattle.run_answer.specs.Run.{room_of}
use Rattle.run_loops.specs.Stretch.{Worked}
use Rattle.run.proofs.sounds_on.Given as goal

abbrev pub invariant-loop-s : goal.invariant-loop-s
invariant-loop-s l =
    Worked l.memory l.s l.end l.base l.initial.l.now l.records l.initial.words l.words l.l l.n × (l.room ≡ room_of l.initial.words) × (l.l.dmc ≡ l.initial.l.dmc)

abbrev pub decreases-loop-s : goal.decreases-loop-s
decreases-loop-s l = l.end + 1 - l.l.next
