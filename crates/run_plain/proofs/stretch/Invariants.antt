-- The loop's invariant: whatever run stands where the clocks begin goes on (`Going`), no count can pass its limit (`Spare`), and the level kept is that of
-- what was given. A turn is `going_on`. Assumes nothing.
use Prim.Native.Nat.{ℕ, ◌-◌, ◌≤◌}
use mathlib.Core.Path.{◌≡◌}
use mathlib.Core.List.{List}
use Rattle.chip.specs.Level.{state_level}
use Rattle.chip.specs.declared.State.{State}
use Rattle.run_answer.specs.Run.{room_of}
use Rattle.run_plain.specs.Heard.{mixed_of}
use Rattle.run_plain.specs.Going.{Going, Spare}
use Rattle.run_plain.proofs.stretch.Given as goal

abbrev pub invariant-loop-heard : goal.invariant-loop-heard
invariant-loop-heard l =
    ((s : State) (counts lent : List ℕ) → Going l.memory s counts lent l.initial.words l.initial.table l.initial.state l.initial.done l.initial.n → Going l.memory s counts lent l.words l.table l.state l.done l.n)
    × (l.level ≡ state_level l.state)
    × (l.heard.level ≡ mixed_of l.heard.given)
    × Spare l.until l.done l.table
    × (l.initial.done ≤ l.done)
    × (l.done ≤ l.until)
    × (l.room ≡ room_of l.initial.words)

abbrev pub decreases-loop-heard : goal.decreases-loop-heard
decreases-loop-heard l = l.until - l.done
