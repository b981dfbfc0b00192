-- Helper: nobody has to believe this; what one who goes from record to record may count on.
use Rattle.std.specs.Prelude.{ℕ, ◌≤◌, ◌<◌, List, [], ◌∷◌}
use Rattle.reading.specs.Reading.{Mark}

-- records of the clocks at + 1 .. end: their clocks rise, and no level is over 32,767
unfoldable pub Ordered : ℕ → List Mark → ℕ → Type 0
Ordered at [] end = at ≤ end
Ordered at (m ∷ l) end = (at < m.clock) × (m.level ≤ 32767) × Ordered m.clock l end
