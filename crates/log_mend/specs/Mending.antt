-- What helps to mend a log that is refused by its totals or its loops.
use Rattle.std.specs.Prelude.{ℕ, ◌+◌, Bool, ◌≡◌, Option, Some, None, List, [], ◌∷◌, eqb, length, take}
use Rattle.arith.specs.Pick.{pick, either}
use Rattle.log_line.specs.declared.Line.{Line}
use Rattle.log_line.specs.declared.Line.TheVariants.{Header, Machine, One, Loop, Done, Stop, NoForm, NoRegister}
use Rattle.log_line.specs.Said.{line_of}
use Rattle.log_rules.specs.declared.Totals.{Totals}
use Rattle.log_rules.specs.Lines.{lines_of}
use Rattle.log_rules.specs.Tree.{clocks}
use Rattle.log_rules.specs.Whole.{tree_of, check_of}
use Rattle.log_rules.specs.Block.{totals, no_totals}

-- every line of the log is right where it stands: it passes, or 9 or 10 holds
unfoldable pub lines_right : List ℕ → Bool
lines_right log = either (eqb (check_of log).number 0) (either (eqb (check_of log).number 9) (eqb (check_of log).number 10))

-- THE TOTALS OF A LOG whose lines are right, each cut off just above what a log may have; none of another
unfoldable pub totals_of : List ℕ → Totals
totals_of log = pick (lines_right log) (totals (tree_of log)) no_totals

-- of a log whose `stop` is wrong (10) they are whole: the clocks are what `stop` has to be
abbrev pub StopRight : Type 0
StopRight = (log : List ℕ) → (check_of log).number ≡ 10 → (totals_of log).clocks ≡ clocks (tree_of log)

-- the loop lines that are open, the innermost first: where each begins
unfoldable pub opened : ℕ → Line → List ℕ → List ℕ
opened at Header loops = loops
opened at Machine loops = loops
opened at (One a) loops = loops
opened at (Loop n) loops = at ∷ loops
opened at Done [] = []
opened at Done (p ∷ loops) = loops
opened at (Stop n) loops = loops
opened at NoForm loops = loops
opened at NoRegister loops = loops

-- those behind some lines, the first of which begins at `at`
unfoldable pub open_behind : ℕ → List (List ℕ) → List ℕ → List ℕ
open_behind at [] loops = loops
open_behind at (l ∷ ls) loops = open_behind (at + length l) ls (opened at (line_of l) loops)

-- where the innermost begins, if there is one
abbrev pub innermost : List ℕ → Option ℕ
innermost [] = None
innermost (p ∷ loops) = Some p

-- THE INNERMOST LOOP THAT IS OPEN AT A PLACE
unfoldable pub open_at : List ℕ → ℕ → List ℕ
open_at log place = open_behind 0 (lines_of (take place log)) []
