-- Helper: nobody has to believe this; the walk of a log with the lowest and the highest level so far.
use Rattle.std.specs.Prelude.{ℕ, zero, suc, ◌≡◌, Bool, true, false, List, [], ◌∷◌, eqb}
use Rattle.arith.specs.Iterate.{iterate}
use Rattle.arith.specs.Pick.{pick}
use Rattle.log_line.specs.declared.Act.{Act}
use Rattle.recording.specs.Whole.{machine_of}
use Rattle.log_rules.specs.Tree.{acts}
use Rattle.recording.specs.Whole.{tree_of}
use Rattle.recording_cursor.specs.Stepping.{step_of}
use Rattle.reading.specs.Saying.{Gives}
use Rattle.chip.specs.Clock.{chip_clock}
use Rattle.chip.specs.Level.{state_level}
use Rattle.chip.specs.Range.{in_range, power_on}
use Rattle.chip.specs.declared.State.{State}
use Rattle.play_rules.specs.Sound.{entries_from}
use Rattle.play_walk.specs.declared.Moment.{Moment}
use Rattle.play_walk.specs.declared.Met.{Met}
use Rattle.meter.specs.declared.Span.{Span}
use Rattle.meter.specs.Spans.{span_at, span_over}
use Rattle.play_meter.specs.declared.Heard.{Heard}
use Rattle.play_meter.specs.Meters.{levels_of}

-- the levels after those of n clocks that change it
unfoldable pub changed : List ℕ → ℕ → State → List ℕ
changed memory zero s = []
changed memory (suc n) s =
    pick (eqb (state_level (chip_clock memory s)) (state_level s)) (changed memory n (chip_clock memory s))
    (state_level (chip_clock memory s) ∷ changed memory n (chip_clock memory s))

abbrev pub heard_of : Bool → State → Span → Heard
heard_of over s span = record { over = over; state = s; span = span }

-- n clocks
unfoldable pub clocks_on : List ℕ → ℕ → State → Span → Heard
clocks_on memory n s span = heard_of false (iterate (chip_clock memory) n s) (span_over span (changed memory n s))

-- with the level after an access, where it differs from that before
unfoldable pub heard_by : Span → ℕ → ℕ → Span
heard_by span before after = pick (eqb after before) span (span_over span (after ∷ []))

-- what a step of the walk met, and the state behind it: at the log's end all is over
unfoldable pub met_on : List ℕ → Met → State → Span → Heard
met_on memory Met.Moved s span = heard_of false s span
met_on memory (Met.Access x b a) s span = heard_of false s (heard_by span b a)
met_on memory (Met.Wait n) s span = clocks_on memory n s span
met_on memory Met.End s span = heard_of true s span
met_on memory (Met.Refused k p) s span = heard_of true s span

-- the lowest and the highest of what was heard and of the lines that the acts still bring
unfoldable pub span_for : List ℕ → List Act → ℕ → State → Span → Span
span_for memory l t s span = span_over span (levels_of (entries_from memory t (state_level s) s l))

-- those of a whole log
unfoldable pub span_of : List ℕ → List ℕ → Span
span_of log memory = span_for memory (acts (tree_of log)) 0 (power_on (machine_of log)) (span_at (state_level (power_on (machine_of log))))

-- on the way: the acts still to come, said within `left` steps, lead to what the whole log leads to
pub record MeterWalking (log memory : List ℕ) (m : Moment) (span : Span) (left : ℕ) : Type 0 where
  pub ranged : in_range m.state ≡ true
  pub time : ℕ
  pub rest : List Act
  pub gives : Gives (step_of log) m.cursor rest left
  pub same : span_for memory rest time m.state span ≡ span_of log memory
