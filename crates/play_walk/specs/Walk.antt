-- The walk of a log, act by act: where it stands, what a step meets, and where it stands then. From the beginning of a log that passes the steps meet the
-- log's acts, one after the other, and then the end (proofs/WalkLaws).
use Rattle.std.specs.Prelude.{ℕ, ◌≡◌, List, [], ◌∷◌}
use Rattle.arith.specs.Iterate.{iterate}
use Rattle.arith.specs.Pick.{pick, both}
use Rattle.reading.specs.Saying.{Said, said_number, said_place, said_things}
use Rattle.log_line.specs.declared.Act.{Act}
use Rattle.log_line.specs.declared.Act.TheVariants.{Wait, Access}
use Rattle.recording.specs.Whole.{machine_of}
use Rattle.recording_cursor.specs.declared.Cursor.{Cursor}
use Rattle.log_cursor.specs.declared.Given.{Given}
use Rattle.recording_cursor.specs.Stepping.{beginning, step_of, told}
use Rattle.chip.specs.Clock.{chip_clock}
use Rattle.chip.specs.Level.{state_level}
use Rattle.chip.specs.Range.{in_range, power_on}
use Rattle.chip.specs.declared.State.{State}
use Rattle.chip_access.specs.Access.{access_state}
use Rattle.chip_api.specs.Answer.{is_memory}
use Rattle.play_walk.specs.declared.Moment.{Moment}
use Rattle.play_walk.specs.declared.Met.{Met}
use Rattle.play_walk.specs.declared.Walked.{Walked}

-- the place in a log, the state there, and the clocks done
abbrev pub moment_of : Cursor → State → ℕ → Moment
moment_of c s t = record { cursor = c; state = s; time = t }

-- at a log's beginning, on its machine
abbrev pub walk_start : List ℕ → Moment
walk_start log = moment_of beginning (power_on (machine_of log)) 0

-- what an act is met as: an access with the level before it and after it, a wait by its clocks
unfoldable pub act_met : Act → State → Met
act_met (Wait n) s = Met.Wait n
act_met (Access x) s = Met.Access x (state_level s) (state_level (access_state x s))

-- the state behind it: an access has acted, a wait's clocks are still to be worked
unfoldable pub act_state : Act → State → State
act_state (Wait n) s = s
act_state (Access x) s = access_state x s

abbrev pub walked_to : Met → Cursor → State → ℕ → Walked
walked_to x c s t = record { met = x; moment = moment_of c s t }

-- what the cursor's step gave, and the cursor behind it
unfoldable pub given_met : Given → Moment → Cursor → Walked
given_met (Given.Act a) m c = walked_to (act_met a m.state) c (act_state a m.state) m.time
given_met Given.Moved m c = walked_to Met.Moved c m.state m.time
given_met Given.End m c = walked_to Met.End c m.state m.time
given_met (Given.Refused k p) m c = walked_to (Met.Refused k p) c m.state m.time

-- ONE STEP: at most one line of the log
unfoldable pub walk_step : List ℕ → Moment → Walked
walk_step log m = given_met (told (step_of log m.cursor).said) m (step_of log m.cursor).state

-- THE STATE n CLOCKS ON; where 1 or 2 holds no clock is worked
unfoldable pub clocks_on : List ℕ → ℕ → State → State
clocks_on memory n s = pick (both (is_memory memory) (in_range s)) (iterate (chip_clock memory) n s) s

-- Document 01: "When an answer is an enum, a definition states this paper's number and values for each enum case": a refusal has its own number and place, all
-- else is 0 at 0, and the value is the act
abbrev pub met_number : Met → ℕ
met_number Met.Moved = 0
met_number (Met.Access x before after) = 0
met_number (Met.Wait n) = 0
met_number Met.End = 0
met_number (Met.Refused k p) = k

abbrev pub met_place : Met → ℕ
met_place Met.Moved = 0
met_place (Met.Access x before after) = 0
met_place (Met.Wait n) = 0
met_place Met.End = 0
met_place (Met.Refused k p) = p

abbrev pub met_acts : Met → List Act
met_acts Met.Moved = []
met_acts (Met.Access x before after) = Access x ∷ []
met_acts (Met.Wait n) = Wait n ∷ []
met_acts Met.End = []
met_acts (Met.Refused k p) = []

-- an answer has those of what the cursor says
abbrev pub MetIs : Said Act → Met → Type 0
MetIs w r = (met_number r ≡ said_number w) × (met_place r ≡ said_place w) × (met_acts r ≡ said_things w)
