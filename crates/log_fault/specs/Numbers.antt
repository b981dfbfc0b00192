-- Document 01: "When an answer is an enum, a definition states this paper's number and values for each enum case": of a line where it stands.
use Rattle.std.specs.Prelude.{ℕ, ◌+◌, ◌≡◌, List, [], ◌∷◌, Result, Ok, Err}
use Rattle.refusal.specs.declared.Refusal.{Refusal}
use Rattle.log_line.specs.declared.Line.{Line}
use Rattle.log_fault.specs.declared.Stand.{Stand}
use Rattle.log_fault.specs.Fault.{spot_of}

-- the number of its fault, 0 where it is right
abbrev pub spotted_number : Result Line Refusal → ℕ
spotted_number (Ok l) = 0
spotted_number (Err e) = e.number

-- the place of the byte at fault, of a line that begins at `at`; 0 where it is right
abbrev pub spotted_place : ℕ → Result Line Refusal → ℕ
spotted_place at (Ok l) = 0
spotted_place at (Err e) = at + e.place

-- and its value, what a right line says
abbrev pub spotted_lines : Result Line Refusal → List Line
spotted_lines (Ok l) = l ∷ []
spotted_lines (Err e) = []

-- these of the line s
abbrev pub fault_number : Stand → List ℕ → ℕ
fault_number st s = spotted_number (spot_of st s)

abbrev pub fault_place : ℕ → Stand → List ℕ → ℕ
fault_place at st s = spotted_place at (spot_of st s)

abbrev pub right_lines : Stand → List ℕ → List Line
right_lines st s = spotted_lines (spot_of st s)

-- an answer has the number, byte and value of its line
abbrev pub SpottedIs : Stand → List ℕ → Result Line Refusal → Type 0
SpottedIs st s r = (spotted_number r ≡ fault_number st s) × (spotted_place 0 r ≡ fault_place 0 st s) × (spotted_lines r ≡ right_lines st s)
