-- The loop's invariant: whatever run stands where the clocks begin goes on (`Going`); a turn is `held_same` or `held_mark` with `kept_on`, the ends are
-- `kept_stopped` and `kept_end`. Assumes nothing.
use Prim.Native.Nat.{ℕ, ◌-◌, ◌≤◌}
use mathlib.Core.Path.{◌≡◌}
use mathlib.Core.List.{List}
use Rattle.chip.specs.Level.{state_level}
use Rattle.chip.specs.declared.State.{State}
use Rattle.run_answer.specs.Run.{room_of}
use Rattle.run_plain.specs.Going.{Going}
use Rattle.run_plain.proofs.rest.Given as goal

abbrev pub invariant-loop-done : goal.invariant-loop-done
invariant-loop-done l =
    ((s : State) (counts lent : List ℕ) → Going l.memory s counts lent l.initial.words l.initial.table l.initial.state l.initial.done l.initial.n → Going l.memory s counts lent l.words l.table l.state l.done l.n)
    × (l.level ≡ state_level l.state)
    × (l.done ≤ l.count)
    × (l.room ≡ room_of l.initial.words)

abbrev pub decreases-loop-done : goal.decreases-loop-done
decreases-loop-done l = l.count - l.done
