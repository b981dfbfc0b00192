-- The level after each clock, by the plain reading and by a run's records.
use Rattle.std.specs.Prelude.{ℕ, zero, suc, ◌+◌, ◌-◌, List, [], ◌∷◌, ◌++◌, replicate}
use Rattle.reading.specs.Reading.{Mark}
use Rattle.chip.specs.Clock.{chip_clock}
use Rattle.chip.specs.Level.{state_level}
use Rattle.chip.specs.declared.State.{State}

-- THE LEVELS AFTER EACH OF n CLOCKS, from the state s on
unfoldable pub clocks_levels : List ℕ → ℕ → State → List ℕ
clocks_levels memory zero s = []
clocks_levels memory (suc n) s = state_level (chip_clock memory s) ∷ clocks_levels memory n (chip_clock memory s)

-- the same by records: after `at` clocks the level is v, and it stands until the clock before the next record, or to the end
unfoldable pub held_levels : ℕ → ℕ → List Mark → ℕ → List ℕ
held_levels at v [] end = replicate (end - at) v
held_levels at v (m ∷ l) end = replicate (m.clock - 1 - at) v ++ held_levels (m.clock - 1) m.level l end
