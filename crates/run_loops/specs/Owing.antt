-- Helper: nobody has to believe this; what the run holds between two stretches.
-- The record of the clock behind a stretch is written where the next one begins (specs/Leap).
use Rattle.std.specs.Prelude.{ℕ, List}
use Rattle.chip.specs.Level.{state_level}
use Rattle.chip.specs.declared.State.{State}
use Rattle.run_answer.specs.Held.{Held}
use Rattle.run_loops.specs.Leap.{marked_records, marked_words}

-- held, once the record of clock `done` is written, before which the level was `was`
abbrev pub Owing : List ℕ → State → List ℕ → List ℕ → State → ℕ → ℕ → ℕ → Type 0
Owing memory s words₀ words state done n was =
    Held memory s words₀ (marked_words words n done (state_level state) was) state done (marked_records n (state_level state) was)
