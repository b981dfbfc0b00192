-- The meter of what a log sounds like, and of each of its waits. Request 11: "silent at all of them; steady, with its level; or moving, with
-- lowest and highest".
use Rattle.std.specs.Prelude.{ℕ, ◌+◌, Bool, List, [], ◌∷◌, eqb}
use Rattle.arith.specs.Iterate.{iterate}
use Rattle.arith.specs.Pick.{pick}
use Rattle.log_line.specs.declared.Act.{Act}
use Rattle.log_line.specs.declared.Act.TheVariants.{Wait, Access}
use Rattle.recording.specs.Whole.{machine_of}
use Rattle.log_rules.specs.Tree.{acts}
use Rattle.recording.specs.Whole.{tree_of, check_of}
use Rattle.chip.specs.Clock.{chip_clock}
use Rattle.chip.specs.Level.{state_level}
use Rattle.chip.specs.declared.State.{State}
use Rattle.chip_access.specs.Access.{access_state}
use Rattle.chip_api.specs.Answer.{is_memory}
use Rattle.play_text.specs.declared.Entry.{Entry}
use Rattle.play_text.specs.declared.Entry.TheVariants.{Play, Level, Read, Stop}
use Rattle.play_rules.specs.Sound.{waited, entries_of}
use Rattle.meter.specs.declared.Metering.{Metering}
use Rattle.meter.specs.declared.Metering.TheVariants.{NoLevels}
use Rattle.meter.specs.Measure.{measure_of}
use Rattle.play_meter.specs.declared.Answer.{Answer}

-- the levels of the player's level lines
unfoldable pub levels_of : List Entry → List ℕ
levels_of [] = []
levels_of (Play ∷ l) = levels_of l
levels_of (Level t v ∷ l) = v ∷ levels_of l
levels_of (Read t v ∷ l) = levels_of l
levels_of (Stop t ∷ l) = levels_of l

-- the meter of all that the player's lines for the acts say, on the machine (true is PAL)
unfoldable pub acts_meter : Bool → List ℕ → List Act → Metering ℕ
acts_meter pal memory l = measure_of (levels_of (entries_of pal memory l))

-- refused: no levels
abbrev pub refused_answer : ℕ → ℕ → Answer
refused_answer number place = record { number = number; place = place; meter = NoLevels }

-- THE METER OF A LOG, on its machine. 1: "sample memory isn't 32,768 bytes", at 0; then the log's own refusals
unfoldable pub log_meter : List ℕ → List ℕ → Answer
log_meter log memory =
    pick (is_memory memory)
    (pick (eqb (check_of log).number 0) (record { number = 0; place = 0; meter = acts_meter (machine_of log) memory (acts (tree_of log)) })
    (refused_answer (check_of log).number (check_of log).place))
    (refused_answer 1 0)

-- a wait of a log: the clock at which it begins, its clocks, and its meter
pub record WaitMeter : Type 0 where
  pub time : ℕ
  pub clocks : ℕ
  pub meter : Metering ℕ

-- n clocks from the state s at time t on: the level there, and those of the player's lines for them
unfoldable pub wait_meter : List ℕ → ℕ → ℕ → State → WaitMeter
wait_meter memory n t s =
    record { time = t; clocks = n; meter = measure_of (state_level s ∷ levels_of (waited memory n t (state_level s) s (λ t last s. []))) }

-- THE WAITS OF A LOG, in order, from the state s at time t on
unfoldable pub waits_from : List ℕ → List Act → ℕ → State → List WaitMeter
waits_from memory [] t s = []
waits_from memory (Wait n ∷ l) t s = wait_meter memory n t s ∷ waits_from memory l (t + n) (iterate (chip_clock memory) n s)
waits_from memory (Access x ∷ l) t s = waits_from memory l t (access_state x s)
