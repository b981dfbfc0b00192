-- Helper: nobody has to believe this; the walk of a log with the counts so far.
use Rattle.std.specs.Prelude.{ℕ, ◌+◌, ◌≤◌, ◌≡◌, Bool, true, false, List, length}
use Rattle.arith.specs.Iterate.{iterate}
use Rattle.reading.specs.Counting.{sum}
use Rattle.reading.specs.Saying.{Gives}
use Rattle.log_line.specs.declared.Act.{Act}
use Rattle.recording.specs.Whole.{machine_of}
use Rattle.log_rules.specs.Tree.{acts}
use Rattle.recording.specs.Whole.{tree_of}
use Rattle.log_passing.proofs.ActLaws.{clocks_in}
use Rattle.recording_cursor.specs.Stepping.{step_of}
use Rattle.chip.specs.Clock.{chip_clock}
use Rattle.chip.specs.Range.{in_range, power_on}
use Rattle.chip.specs.declared.State.{State}
use Rattle.play_walk.specs.declared.Moment.{Moment}
use Rattle.play_walk.specs.declared.Met.{Met}
use Rattle.play_dwell.specs.declared.Answer.{Answer}
use Rattle.play_dwell.specs.declared.Dwelt.{Dwelt}
use Rattle.play_dwell.specs.Dwelling.{dwelling, dwell_from, no_counts}

abbrev pub refused_answer : ℕ → ℕ → Answer
refused_answer number place = record { number = number; place = place; clocks = 0; counts = no_counts }

abbrev pub dwelt_of : Bool → State → List ℕ → Dwelt
dwelt_of over s counts = record { over = over; state = s; counts = counts }

-- n clocks
unfoldable pub clocks_on : List ℕ → ℕ → State → List ℕ → Dwelt
clocks_on memory n s counts = dwelt_of false (iterate (chip_clock memory) n s) (dwelling memory n s counts)

-- the clocks of what a step of the walk met
unfoldable pub met_clocks : Met → ℕ
met_clocks Met.Moved = 0
met_clocks (Met.Access x b a) = 0
met_clocks (Met.Wait n) = n
met_clocks Met.End = 0
met_clocks (Met.Refused k p) = 0

-- what a step of the walk met, and the state behind it: at the log's end all is over
unfoldable pub met_on : List ℕ → Met → State → List ℕ → Dwelt
met_on memory Met.Moved s counts = dwelt_of false s counts
met_on memory (Met.Access x b a) s counts = dwelt_of false s counts
met_on memory (Met.Wait n) s counts = clocks_on memory n s counts
met_on memory Met.End s counts = dwelt_of true s counts
met_on memory (Met.Refused k p) s counts = dwelt_of true s counts

-- the counts of a whole log
unfoldable pub table_of : List ℕ → List ℕ → List ℕ
table_of log memory = dwell_from memory (acts (tree_of log)) (power_on (machine_of log)) no_counts

-- on the way: the acts still to come, said within `left` steps, lead to what the whole log leads to, and all their clocks may still be counted
pub record DwellWalking (log memory : List ℕ) (m : Moment) (counts : List ℕ) (left : ℕ) : Type 0 where
  pub ranged : in_range m.state ≡ true
  pub size : length counts ≡ 128
  pub rest : List Act
  pub gives : Gives (step_of log) m.cursor rest left
  pub few : sum counts + clocks_in rest ≤ 2000000000
  pub same : dwell_from memory rest m.state counts ≡ table_of log memory
