-- What is right about a log, line by line.
use Rattle.std.specs.Prelude.{ℕ, ◌+◌, ◌-◌, List, [], ◌∷◌, true, false, length, Result, Ok, Err}
use Rattle.refusal.specs.declared.Refusal.{Refusal}
use Rattle.log_line.specs.declared.Line.{Line}
use Rattle.log_line.specs.declared.Line.TheVariants.{Header, Machine, One, Loop, Done, Stop, NoForm, NoRegister}
use Rattle.log_line.specs.Said.{line_of}
use Rattle.log_fault.specs.declared.Stand.TheVariants.{First, Among}
use Rattle.log_fault.specs.Fault.{spot_of}
use Rattle.log_rules.specs.Lines.{lines_of}

-- nothing is at fault, or a refusal's number and place
pub data Verdict : Type 0 where
  right : Verdict
  wrong : ℕ → ℕ → Verdict

-- where a line stands: first; second; further down with so many loops open; behind `stop`
pub data Stand : Type 0 where
  first : Stand
  second : Stand
  among : ℕ → Stand
  over : Stand

-- what is found of the line that begins at `at`
unfoldable pub found_at : ℕ → Result Line Refusal → Verdict
found_at at (Ok l) = right
found_at at (Err e) = wrong e.number (at + e.place)

-- the verdict on one line; "Last `stop=N` .., then nothing"
unfoldable pub verdict : Stand → ℕ → List ℕ → Verdict
verdict first at l = found_at at (spot_of First l)
verdict second at l = found_at at (spot_of (Among true 0) l)
verdict (among d) at l = found_at at (spot_of (Among false d) l)
verdict over at l = wrong 19 at

-- how the next line stands behind a line that is right
unfoldable pub leaves : ℕ → Line → Stand
leaves d Header = among d
leaves d Machine = among d
leaves d (One a) = among d
leaves d (Loop n) = among (d + 1)
leaves d Done = among (d - 1)
leaves d (Stop n) = over
leaves d NoForm = among d
leaves d NoRegister = among d

unfoldable pub behind : Stand → List ℕ → Stand
behind first l = second
behind second l = leaves 0 (line_of l)
behind (among d) l = leaves d (line_of l)
behind over l = over

-- at the log's end: "the log's length if `stop` is missing"
unfoldable pub ending : Stand → ℕ → Verdict
ending first at = wrong 18 at
ending second at = wrong 18 at
ending (among d) at = wrong 18 at
ending over at = right

-- the first fault wins
unfoldable pub unless : Verdict → Verdict → Verdict
unless right v = v
unless (wrong k p) v = wrong k p

-- "the first line at fault wins": the lines ls, of which the first begins at `at`
unfoldable pub judge : Stand → ℕ → List (List ℕ) → Verdict
judge s at [] = ending s at
judge s at (l ∷ ls) = unless (verdict s at l) (judge (behind s l) (at + length l) ls)

unfoldable pub judged : List ℕ → Verdict
judged log = judge first 0 (lines_of log)
