-- A whole log: the tree that its lines stand for, and the check.
use Rattle.std.specs.Prelude.{ℕ, ◌+◌, List, [], ◌∷◌, Bool, false, length, eqb, ltb}
use Rattle.arith.specs.Pick.{pick, either}
use Rattle.log_line.specs.declared.Line.{Line}
use Rattle.log_line.specs.declared.Line.TheVariants.{Header, Machine, One, Loop, Done, Stop, NoForm, NoRegister}
use Rattle.log_line.specs.Said.{line_of}
use Rattle.log_rules.specs.declared.Checked.{Checked}
use Rattle.log_rules.specs.Lines.{lines_of}
use Rattle.log_rules.specs.Head.{machine_of}
use Rattle.log_rules.specs.Judge.{Verdict, right, wrong, judged}
use Rattle.log_rules.specs.Tree.{Tree, end, act, loop, acts, clocks, turns}

-- a line in front of blocks of lines, the innermost first: `done` and `stop` end a block, an act goes in front of the innermost, and a loop
-- takes the innermost for its body and stands in the one around it
unfoldable pub grow : Line → List Tree → List Tree
grow (One a) [] = []
grow (One a) (t ∷ ts) = act a t ∷ ts
grow (Loop n) [] = []
grow (Loop n) (b ∷ []) = []
grow (Loop n) (b ∷ t ∷ ts) = loop n b t ∷ ts
grow Done ts = end ∷ ts
grow (Stop n) ts = end ∷ ts
grow Header ts = ts
grow Machine ts = ts
grow NoForm ts = ts
grow NoRegister ts = ts

-- the blocks that lines stand for, from the last line to the first
unfoldable pub blocks : List (List ℕ) → List Tree
blocks [] = []
blocks (l ∷ ls) = grow (line_of l) (blocks ls)

unfoldable pub innermost : List Tree → Tree
innermost [] = end
innermost (t ∷ ts) = t

-- the tree that a log stands for
unfoldable pub tree_of : List ℕ → Tree
tree_of log = innermost (blocks (lines_of log))

-- the place and the number of the `stop` line
pub record Stopping : Type 0 where
  pub place : ℕ
  pub number : ℕ

unfoldable pub stop_here : ℕ → Line → Stopping → Stopping
stop_here at (Stop n) s = record { place = at; number = n }
stop_here at Header s = s
stop_here at Machine s = s
stop_here at (One a) s = s
stop_here at (Loop n) s = s
stop_here at Done s = s
stop_here at NoForm s = s
stop_here at NoRegister s = s

unfoldable pub stop_from : ℕ → List (List ℕ) → Stopping
stop_from at [] = record { place = at; number = 0 }
stop_from at (l ∷ ls) = stop_here at (line_of l) (stop_from (at + length l) ls)

unfoldable pub stopping_of : List ℕ → Stopping
stopping_of log = stop_from 0 (lines_of log)

-- "A refusal returns its number and place, .. 0 or no for the rest"
abbrev pub check_refusal : ℕ → ℕ → Checked
check_refusal k p = record { number = k; place = p; pal = false; clocks = 0; turns = 0; items = 0 }

-- 0: "done"; the place is "0 otherwise"
abbrev pub passed_check : Bool → Tree → Checked
passed_check m t = record { number = 0; place = 0; pal = m; clocks = clocks t; turns = turns t; items = length (acts t) }

-- 9: "over 2,000,000,000 clocks or 1,000,000 turns in all"
unfoldable pub heavy : Tree → Bool
heavy t = either (ltb 2000000000 (clocks t)) (ltb 1000000 (turns t))

-- 9, then 10: "`stop` differs from the clocks in all"; "the `stop` line for 9 and 10"
unfoldable pub weighed : Bool → Tree → Stopping → Checked
weighed m t s =
    pick (heavy t) (check_refusal 9 s.place)
    (pick (eqb s.number (clocks t)) (passed_check m t)
    (check_refusal 10 s.place))

unfoldable pub unless_wrong : Verdict → Checked → Checked
unless_wrong right c = c
unless_wrong (wrong k p) c = check_refusal k p

-- 5, "log longer than 60,000 bytes", "comes before 4"; then the first line at fault; then 9 and 10
unfoldable pub check_of : List ℕ → Checked
check_of log =
    pick (ltb 60000 (length log)) (check_refusal 5 0)
    (unless_wrong (judged log) (weighed (machine_of log) (tree_of log) (stopping_of log)))
