-- The loop's invariant is `Owing`: state, count and words, with the record of the last clock, are the plain reading's so far, and the table is that of the clocks
-- done; a turn is a stretch and then one clock by itself. Assumes nothing.
use Prim.Native.Nat.{◌-◌, ◌≤◌}
use mathlib.Core.Path.{◌≡◌}
use Rattle.reading.proofs.CountingLaws.{tallied}
use Rattle.run_answer.specs.Run.{room_of}
use Rattle.run_dwell.specs.Kept.{dwell_places}
use Rattle.run_loops.specs.Owing.{Owing}
use Rattle.run.proofs.run_on.Given as goal

abbrev pub invariant-loop-done : goal.invariant-loop-done
invariant-loop-done l =
    Owing l.memory l.initial.state l.initial.words l.words l.state l.done l.n l.level × (l.done ≤ l.count) × (l.room ≡ room_of l.initial.words) × (l.table ≡ tallied (dwell_places l.memory l.initial.state) l.done l.initial.table)

abbrev pub decreases-loop-done : goal.decreases-loop-done
decreases-loop-done l = l.count - l.done
