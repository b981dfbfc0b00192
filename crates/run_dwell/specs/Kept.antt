-- Helper: nobody has to believe this; an invariant of the plain run.
-- What a run that is not refused holds of its table between its clocks.
use Rattle.std.specs.Prelude.{ℕ, ◌≡◌, List, length}
use Rattle.reading.proofs.CountingLaws.{tallied, Free, places}
use Rattle.chip.specs.Clock.{chip_clock}
use Rattle.chip.specs.declared.State.{State}
use Rattle.run_dwell.specs.Dwell.{dwell_limit, dwell_place}

-- the DMC levels after clocks 1, 2, .. from s
abbrev pub dwell_places : List ℕ → State → ℕ → ℕ
dwell_places memory s = places (chip_clock memory) dwell_place s

-- after `done` clocks from s with `counts`, none of which a count stopped, the table is that of the plain reading
pub record Kept (memory : List ℕ) (s : State) (counts : List ℕ) (done : ℕ) (table : List ℕ) : Type 0 where
  pub size : length counts ≡ 128
  pub is : table ≡ tallied (dwell_places memory s) done counts
  pub free : Free dwell_limit (dwell_places memory s) done counts
