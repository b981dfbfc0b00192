-- Helper: nobody has to believe this; a run's records as lines; proved to be the wait heard clock by clock (proofs/WaitLaws).
-- A portion of a wait, with all its records.
use Rattle.std.specs.Prelude.{ℕ, ◌+◌, List, [], ◌∷◌}
use Rattle.reading.specs.Reading.{Mark}
use Rattle.play_text.specs.declared.Entry.{Entry}
use Rattle.play_text.specs.declared.Entry.TheVariants.{Level}

-- a record of a wait that began at time t, as a line
abbrev pub entry_at : ℕ → Mark → Entry
entry_at t m = Level (t + m.clock) m.level

-- the last level behind a wait's records
unfoldable pub last_of : ℕ → List Mark → ℕ
last_of last [] = last
last_of last (m ∷ ms) = last_of m.level ms
