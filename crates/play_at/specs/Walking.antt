-- Helper: nobody has to believe this; the walk of a log to a clock.
use Rattle.std.specs.Prelude.{ℕ, ◌+◌, ◌-◌, ◌≤◌, ◌≡◌, Bool, true, false, List, ltb}
use Rattle.arith.specs.Iterate.{iterate}
use Rattle.arith.specs.Pick.{pick}
use Rattle.log_line.specs.declared.Act.{Act}
use Rattle.recording.specs.Whole.{machine_of}
use Rattle.log_rules.specs.Tree.{acts}
use Rattle.recording.specs.Whole.{tree_of}
use Rattle.recording_cursor.specs.Stepping.{step_of}
use Rattle.reading.specs.Saying.{Gives}
use Rattle.chip.specs.Clock.{chip_clock}
use Rattle.chip.specs.Range.{in_range, power_on}
use Rattle.play_walk.specs.declared.Moment.{Moment}
use Rattle.play_walk.specs.declared.Met.{Met}
use Rattle.play_walk.specs.Walk.{moment_of}
use Rattle.play_at.specs.declared.Stand.{Stand}
use Rattle.play_at.specs.Reached.{reached}

abbrev pub stand_of : Bool → Moment → Stand
stand_of over m = record { over = over; moment = m }

-- a wait, cut at the clock c
unfoldable pub wait_to : List ℕ → ℕ → ℕ → Moment → Stand
wait_to memory c n m =
    pick (ltb c (m.time + n)) (stand_of true (moment_of m.cursor (iterate (chip_clock memory) (c - m.time) m.state) c))
    (stand_of false (moment_of m.cursor (iterate (chip_clock memory) n m.state) (m.time + n)))

-- what a step of the walk met, and the moment behind it: at the log's end all is over
unfoldable pub met_to : List ℕ → ℕ → Met → Moment → Stand
met_to memory c Met.Moved m = stand_of false m
met_to memory c (Met.Access x b a) m = stand_of false m
met_to memory c (Met.Wait n) m = wait_to memory c n m
met_to memory c Met.End m = stand_of true m
met_to memory c (Met.Refused k p) m = stand_of true m

-- at or before the clock c, in a state in range
pub record Fine (c : ℕ) (m : Moment) : Type 0 where
  pub early : m.time ≤ c
  pub ranged : in_range m.state ≡ true

-- on the way: the acts still to come, said within `left` steps, lead to what the whole log leads to
pub record Walking (log memory : List ℕ) (c : ℕ) (m : Moment) (left : ℕ) : Type 0 where
  pub fine : Fine c m
  pub rest : List Act
  pub gives : Gives (step_of log) m.cursor rest left
  pub same : reached memory c rest m.time m.state ≡ reached memory c (acts (tree_of log)) 0 (power_on (machine_of log))
