-- Helper: nobody has to believe this; what the code carries from line to line; proved to lead to `open_at` (proofs/NestLaws).
use Rattle.std.specs.Prelude.{ℕ, ◌+◌, ◌-◌, List, [], ◌∷◌, eqb, length}
use Rattle.arith.specs.Pick.{pick}
use Rattle.log_line.specs.declared.Line.{Line}
use Rattle.log_line.specs.declared.Line.TheVariants.{Header, Machine, One, Loop, Done, Stop, NoForm, NoRegister}
use Rattle.log_line.specs.Said.{line_of}
use Rattle.log_mend.specs.declared.Nest.{Nest}

-- how many loops are open, and where the latest line begins that made them so many as are wanted
abbrev pub no_nest : Nest
no_nest = record { depth = 0; mark = 0 }

abbrev pub nest_line : ℕ → ℕ → Line → Nest → Nest
nest_line want at Header s = s
nest_line want at Machine s = s
nest_line want at (One a) s = s
nest_line want at (Loop n) s = record { depth = s.depth + 1; mark = pick (eqb (s.depth + 1) want) at s.mark }
nest_line want at Done s = record { depth = s.depth - 1; mark = s.mark }
nest_line want at (Stop n) s = s
nest_line want at NoForm s = s
nest_line want at NoRegister s = s

-- behind some lines, the first of which begins at `at`
unfoldable pub nest_lines : ℕ → ℕ → List (List ℕ) → Nest → Nest
nest_lines want at [] s = s
nest_lines want at (l ∷ ls) s = nest_lines want (at + length l) ls (nest_line want at (line_of l) s)
