-- The loop's invariant: the run goes on (`Going`), and no count can pass its limit before `until` (`Spare`). A turn is `going_on` and what a stretch
-- promises. Assumes nothing.
use Prim.Native.Nat.{◌-◌, ◌≤◌}
use mathlib.Core.Path.{◌≡◌}
use Rattle.chip.specs.Level.{state_level}
use Rattle.run_answer.specs.Run.{room_of}
use Rattle.run_plain.specs.Going.{Going, Spare}
use Rattle.run_plain.proofs.work.Given as goal

abbrev pub invariant-loop-next : goal.invariant-loop-next
invariant-loop-next l =
    Going l.memory l.initial.state l.initial.table l.initial.words l.words l.table l.state l.done l.n
    × (l.level ≡ state_level l.state)
    × Spare l.until l.done l.table
    × (l.done ≤ l.until)
    × (l.until ≤ l.count)
    × (l.room ≡ room_of l.initial.words)

abbrev pub decreases-loop-next : goal.decreases-loop-next
decreases-loop-next l = l.until - l.done
