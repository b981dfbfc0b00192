-- What a cursor does at one line.
use Rattle.std.specs.Prelude.{◌≡◌, Bool, true, false, List, [], ◌∷◌, ℕ, ◌+◌, ◌-◌, get_or, set, eqb, leb, ltb, Result, Ok, Err}
use Rattle.refusal.specs.declared.Refusal.{Refusal}
use Rattle.arith.specs.Pick.{pick}
use Rattle.log_line.specs.declared.Act.{Act}
use Rattle.log_line.specs.declared.Line.{Line}
use Rattle.log_line.specs.declared.Line.TheVariants.{Header, Machine, One, Loop, Done, Stop, NoForm, NoRegister}
use Rattle.log_rules.specs.Reading.{standing, read_in}
use Rattle.reading.specs.Saying.{Said, over, on, says, refused, said_number, said_place, said_things, Turn}
use Rattle.log_cursor.specs.declared.Cursor.{Cursor}
use Rattle.log_cursor.specs.declared.Given.{Given}
use Rattle.log_cursor.specs.declared.Stepped.{Stepped}

abbrev pub Go : Type 0
Go = Turn Cursor Act

abbrev pub go : Said Act → Cursor → Go
go w c = record { said = w; state = c }

-- the answer for what is said
abbrev pub told : Said Act → Given
told over = Given.End
told on = Given.Moved
told (says a) = Given.Act a
told (refused k p) = Given.Refused k p

abbrev pub stepped_of : Go → Stepped
stepped_of t = record { found = told t.said; cursor = t.state }

-- document 01's number and place of each answer: 0 is "done", and the place is "0 otherwise"

abbrev pub found_number : Given → ℕ
found_number (Given.Act a) = 0
found_number Given.Moved = 0
found_number Given.End = 0
found_number (Given.Refused k p) = k

abbrev pub found_place : Given → ℕ
found_place (Given.Act a) = 0
found_place Given.Moved = 0
found_place Given.End = 0
found_place (Given.Refused k p) = p

-- and its value, the act
abbrev pub found_acts : Given → List Act
found_acts (Given.Act a) = a ∷ []
found_acts Given.Moved = []
found_acts Given.End = []
found_acts (Given.Refused k p) = []

-- an answer has those of what is said
abbrev pub FoundIs : Said Act → Given → Type 0
FoundIs w r = (found_number r ≡ said_number w) × (found_place r ≡ said_place w) × (found_acts r ≡ said_things w)

-- the cursor has moved and came to no item yet; a step that is refused leaves it where it was
abbrev pub is_moved : Given → Bool
is_moved (Given.Act a) = false
is_moved Given.End = false
is_moved Given.Moved = true
is_moved (Given.Refused k p) = false

abbrev pub is_refused : Given → Bool
is_refused (Given.Act a) = false
is_refused Given.End = false
is_refused Given.Moved = false
is_refused (Given.Refused k p) = true

-- at a log's beginning
abbrev pub beginning : Cursor
beginning =
    record {
      at = 0;
      depth = 0;
      starts = 0 ∷ 0 ∷ 0 ∷ 0 ∷ 0 ∷ 0 ∷ 0 ∷ 0 ∷ [];
      left = 0 ∷ 0 ∷ 0 ∷ 0 ∷ 0 ∷ 0 ∷ 0 ∷ 0 ∷ [];
    }

-- the loops that are open: at most eight, and none in a cursor that says more
unfoldable pub loops_open : Cursor → ℕ
loops_open c = pick (leb c.depth 8) c.depth 0

-- to a place, with d loops open
abbrev pub moved_to : Cursor → ℕ → ℕ → Cursor
moved_to c d p = record { at = p; depth = d; starts = c.starts; left = c.left }

-- with d loops open, into one more of n turns, whose body begins at p
abbrev pub entered : Cursor → ℕ → ℕ → ℕ → Cursor
entered c d p n = record { at = p; depth = d + 1; starts = set c.starts d p; left = set c.left d (n - 1) }

-- with d loops open, another turn of the innermost, of n that are left
abbrev pub again : Cursor → ℕ → ℕ → Cursor
again c d n = record { at = get_or c.starts (d - 1) 0; depth = d; starts = c.starts; left = set c.left (d - 1) (n - 1) }

-- the innermost of d loops at its `done`, with n turns left; p is the place behind it
unfoldable pub turned : Cursor → ℕ → ℕ → ℕ → Go
turned c d p n = pick (eqb n 0) (go on (moved_to c (d - 1) p)) (go on (again c d n))

-- with d loops open, the line at the cursor says l and the next one begins at p; a line that is right there opens no ninth loop, closes one
-- that is open, stops where none is, and is not at fault itself
unfoldable pub followed : Cursor → ℕ → ℕ → Line → Go
followed c d p Header = go on (moved_to c d p)
followed c d p Machine = go on (moved_to c d p)
followed c d p (One a) = go (says a) (moved_to c d p)
followed c d p (Loop n) = pick (ltb d 8) (go on (entered c d p n)) (go (refused 7 c.at) c)
followed c d p Done = pick (eqb d 0) (go (refused 8 c.at) c) (turned c d p (get_or c.left (d - 1) 0))
followed c d p (Stop n) = pick (eqb d 0) (go over c) (go (refused 8 c.at) c)
followed c d p NoForm = go (refused 14 c.at) c
followed c d p NoRegister = go (refused 4 c.at) c

-- what was read at the cursor
unfoldable pub read_step : Cursor → Result (Line × ℕ) Refusal → Go
read_step c (Ok (l, p)) = followed c (loops_open c) p l
read_step c (Err e) = go (refused e.number e.place) c

-- one step: at most one line
unfoldable pub step_of : List ℕ → Cursor → Go
step_of log c = read_step c (read_in (standing log c.at (loops_open c)) log c.at)
