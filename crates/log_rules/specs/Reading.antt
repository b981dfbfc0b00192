-- Reading one line at any place. Document 01: "Reading a line yields an item or a refusal with its place".
use Rattle.std.specs.Prelude.{ℕ, ◌+◌, ◌≤◌, Bool, ◌≡◌, List, [], ◌∷◌, length, eqb, ltb, Result, Ok, Err}
use Rattle.refusal.specs.declared.Refusal.{Refusal}
use Rattle.refusal.specs.Refusal.{refusal}
use Rattle.arith.specs.Pick.{pick, both}
use Rattle.text.specs.Key.{starts_with}
use Rattle.log_line.specs.declared.Line.{Line}
use Rattle.log_line.specs.declared.Line.TheVariants.{Header}
use Rattle.log_line.specs.Printed.{line_text}
use Rattle.log_rules.specs.Lines.{bytes_at, next_line}
use Rattle.log_fault.specs.declared.Stand.{Stand}
use Rattle.log_fault.specs.declared.Stand.TheVariants.{First, Among, Alone}
use Rattle.log_fault.specs.Fault.{spot_of}
use Rattle.log_fault.specs.Numbers.{fault_number, fault_place, right_lines}

-- document 01's number and place for each answer: 0 at 0 for an item
abbrev pub reading_number : Result (Line × ℕ) Refusal → ℕ
reading_number (Ok (l, next)) = 0
reading_number (Err e) = e.number

abbrev pub reading_place : Result (Line × ℕ) Refusal → ℕ
reading_place (Ok (l, next)) = 0
reading_place (Err e) = e.place

-- and its value, what the line says
abbrev pub reading_lines : Result (Line × ℕ) Refusal → List Line
reading_lines (Ok (l, next)) = l ∷ []
reading_lines (Err e) = []

-- a line that is right is an item
abbrev pub taken : ℕ → ℕ → Result Line Refusal → Result (Line × ℕ) Refusal
taken at next (Ok l) = Ok (l, next)
taken at next (Err e) = Err (refusal e.number (at + e.place))

-- the place of a fault is at most n
abbrev pub Reaches : ℕ → ℕ → Result Line Refusal → Type 0
Reaches at n (Ok l) = Unit {0}
Reaches at n (Err e) = at + e.place ≤ n

-- the line at a place, by how it stands. 5 at 0: "log longer than 60,000 bytes"; 18 at the log's length, where no line is left: "`stop` missing"
unfoldable pub read_in : Stand → List ℕ → ℕ → Result (Line × ℕ) Refusal
read_in st log at =
    pick (ltb 60000 (length log)) (Err (refusal 5 0))
    (pick (ltb at (length log)) (taken at (next_line log at) (spot_of st (bytes_at log at)))
    (Err (refusal 18 (length log))))

-- number, place and value of the line at a place, by the same rule
unfoldable pub read_number : Stand → List ℕ → ℕ → ℕ
read_number st log at = pick (ltb 60000 (length log)) 5 (pick (ltb at (length log)) (fault_number st (bytes_at log at)) 18)

unfoldable pub read_place : Stand → List ℕ → ℕ → ℕ
read_place st log at = pick (ltb 60000 (length log)) 0 (pick (ltb at (length log)) (fault_place at st (bytes_at log at)) (length log))

unfoldable pub read_lines : Stand → List ℕ → ℕ → List Line
read_lines st log at = pick (ltb 60000 (length log)) [] (pick (ltb at (length log)) (right_lines st (bytes_at log at)) [])

-- an answer has them
abbrev pub ReadingIs : Stand → List ℕ → ℕ → Result (Line × ℕ) Refusal → Type 0
ReadingIs st log at r = (reading_number r ≡ read_number st log at) × (reading_place r ≡ read_place st log at) × (reading_lines r ≡ read_lines st log at)

-- the line that begins at a place is the second: it stands behind `log=1` and its line feed, and these are the first six bytes
unfoldable pub is_second : List ℕ → ℕ → Bool
is_second log at = both (eqb at 6) (starts_with (line_text Header) log)

-- how a line stands that begins at a place, with d loops open: first at place 0, else the second or not
unfoldable pub standing : List ℕ → ℕ → ℕ → Stand
standing log at d = pick (eqb at 0) First (Among (is_second log at) d)

-- how one stands that is read by itself: at place 0 only `log=1` is an item, and `machine=pal` only as the second line; further on any line that is right by
-- itself, since no depth is known
abbrev pub alone : List ℕ → ℕ → Stand
alone log at = pick (eqb at 0) First (Alone (is_second log at))

unfoldable pub read_at : List ℕ → ℕ → Result (Line × ℕ) Refusal
read_at log at = read_in (alone log at) log at
