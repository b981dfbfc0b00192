-- The loop's invariant is `Worked`, in a quiet state that nothing was touched, and that the table is settled (`Settled`); a turn is an event of any channel,
-- and then the loop without the DMC. Assumes nothing.
use Prim.Native.Nat.{◌+◌, ◌-◌, ◌≤◌}
use mathlib.Core.Path.{◌≡◌}
use Rattle.run_answer.specs.Run.{room_of}
use Rattle.leap_law.specs.Quiet.{Quiet}
use Rattle.run_walk.specs.Settle.{Settled}
use Rattle.run_loops.specs.Stretch.{Worked}
use Rattle.run_loops.proofs.StretchLaws.{Untouched}
use Rattle.run.proofs.stretch_on.Given as goal

abbrev pub invariant-loop-e : goal.invariant-loop-e
invariant-loop-e l =
    Worked l.memory l.s l.end l.base 0 l.initial.n l.initial.words l.words l.l l.n
    × (l.room ≡ room_of l.initial.words)
    × (Quiet l.s → Untouched l.s l.initial.n l.initial.words l.l l.n l.words)
    × Settled l.memory l.s l.initial.table l.table l.l.dmc l.settled
    × (l.settled ≤ l.l.now)

abbrev pub decreases-loop-e : goal.decreases-loop-e
decreases-loop-e l = l.end + 1 - l.l.next
