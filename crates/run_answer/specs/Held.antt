-- Helper: nobody has to believe this; an invariant of both runs.
-- What a run that is not refused holds between its clocks.
use Rattle.std.specs.Prelude.{ℕ, ◌-◌, ◌≤◌, ◌≡◌, List, length}
use Rattle.reading.specs.Reading.{Mark, start, reading}
use Rattle.chip.specs.declared.State.{State}
use Rattle.arith.specs.Over.{over}
use Rattle.run_answer.specs.Run.{chip_clockwork, room_of, flat}

-- after `done` clocks from s, with `words₀` lent, the reading stands at `state` with n records, and `words` hold them
pub record Held (memory : List ℕ) (s : State) (words₀ words : List ℕ) (state : State) (done n : ℕ) : Type 0 where
  pub marks : List Mark
  pub read : reading (chip_clockwork memory) done (start (room_of words₀) s) ≡ record { state = state; done = done; room = room_of words₀ - n; marks = marks }
  pub count : length marks ≡ n
  pub most : n ≤ room_of words₀
  pub stored : words ≡ over (flat marks) words₀
