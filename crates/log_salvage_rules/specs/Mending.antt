-- Change request 12: a damaged log repaired.
use Rattle.std.specs.Prelude.{ℕ, zero, suc, ◌+◌, ◌-◌, List, [], ◌∷◌, ◌++◌, Bool, true, false, length, drop, eqb, ltb, Result, Ok, Err}
use Rattle.refusal.specs.declared.Refusal.{Refusal}
use Rattle.arith.specs.Pick.{pick, both}
use Rattle.text.specs.Key.{starts_with}
use Rattle.log_line.specs.declared.Line.{Line}
use Rattle.log_line.specs.declared.Line.TheVariants.{Header, Machine, One, Loop, Done, Stop, NoForm, NoRegister}
use Rattle.log_line.specs.Said.{line_of}
use Rattle.log_line.specs.Printed.{line_text}
use Rattle.log_fault.specs.declared.Stand.TheVariants.{Among}
use Rattle.log_fault.specs.Fault.{spot_of}
use Rattle.log_rules.specs.Lines.{lines_of}
use Rattle.log_rules.specs.Tree.{Tree, clocks}
use Rattle.log_rules.specs.Whole.{tree_of}
use Rattle.log_salvage_rules.specs.declared.Fate.{Fate}
use Rattle.log_salvage_rules.specs.declared.Fate.TheVariants.{Keep, Drop, Ninth, NinthDone}
use Rattle.log_salvage_rules.specs.Entries.{Entry, dropped, added}

-- what has been kept so far: the new log, and the list; whether the next line is the new log's second; the loops open in it; the ninth loops that were
-- dropped and whose `done` is still to come; whether a `stop` stayed
pub record Kept : Type 0 where
  pub new : List ℕ
  pub list : List Entry
  pub second : Bool
  pub depth : ℕ
  pub ninths : ℕ
  pub stopped : Bool

-- what a new log with no loop open stands for, before its `stop` is there
unfoldable pub kept_tree : List ℕ → Tree
kept_tree new = tree_of (new ++ line_text (Stop 0))

-- "A `stop` stays only if it is the damaged log's last line, no loop is open and its number is right; any other of right form goes, with 19 if lines
-- follow it and 10 if not."
unfoldable pub stop_fate : Kept → Bool → ℕ → Fate
stop_fate k last n =
    pick (both last (both (eqb k.depth 0) (eqb n (clocks (kept_tree k.new)))))
    (Keep (Stop n))
    (Drop (pick last 10 19))

-- "keep the right ones", but not "the `done` that belongs to" a ninth loop line
unfoldable pub right_fate : Kept → Line → Fate
right_fate k Done = pick (ltb 0 k.ninths) NinthDone (Keep Done)
right_fate k Header = Keep Header
right_fate k Machine = Keep Machine
right_fate k (One a) = Keep (One a)
right_fate k (Loop n) = Keep (Loop n)
right_fate k (Stop n) = Keep (Stop n)
right_fate k NoForm = Keep NoForm
right_fate k NoRegister = Keep NoRegister

-- "Drop lines at fault by 4 or 14 to 17, a `done` with no loop open (8), and a ninth loop line with the `done` that belongs to it (7 for both), keeping
-- its body."
unfoldable pub found_fate : Kept → Result Line Refusal → Fate
found_fate k (Ok l) = right_fate k l
found_fate k (Err e) = pick (eqb e.number 7) Ninth (Drop e.number)

unfoldable pub line_fate : Kept → Bool → Result Line Refusal → Line → Fate
line_fate k last f (Stop n) = stop_fate k last n
line_fate k last f Header = found_fate k f
line_fate k last f Machine = found_fate k f
line_fate k last f (One a) = found_fate k f
line_fate k last f (Loop n) = found_fate k f
line_fate k last f Done = found_fate k f
line_fate k last f NoForm = found_fate k f
line_fate k last f NoRegister = found_fate k f

-- "Judge each line in order against what has been kept, as if dropped lines had never stood there"
unfoldable pub fate_of : Kept → Bool → List ℕ → Fate
fate_of k last l = line_fate k last (spot_of (Among k.second k.depth) l) (line_of l)

-- the loops open behind a line that is kept, and whether it is a `stop`

unfoldable pub deeper : ℕ → Line → ℕ
deeper d (Loop n) = d + 1
deeper d Done = d - 1
deeper d Header = d
deeper d Machine = d
deeper d (One a) = d
deeper d (Stop n) = d
deeper d NoForm = d
deeper d NoRegister = d

unfoldable pub is_stop : Line → Bool
is_stop (Stop n) = true
is_stop Header = false
is_stop Machine = false
is_stop (One a) = false
is_stop (Loop n) = false
is_stop Done = false
is_stop NoForm = false
is_stop NoRegister = false

-- a line dropped for a reason
unfoldable pub dropping : Kept → ℕ → ℕ → ℕ → Kept
dropping k at reason ninths = record { new = k.new; list = k.list ++ (dropped at reason ∷ []); second = k.second; depth = k.depth; ninths = ninths; stopped = k.stopped }

-- what has been kept behind the line l, which begins at a place of the damaged log
unfoldable pub behind_line : Kept → ℕ → List ℕ → Fate → Kept
behind_line k at l (Keep m) = record { new = k.new ++ l; list = k.list; second = false; depth = deeper k.depth m; ninths = k.ninths; stopped = is_stop m }
behind_line k at l (Drop r) = dropping k at r k.ninths
behind_line k at l Ninth = dropping k at 7 (k.ninths + 1)
behind_line k at l NinthDone = dropping k at 7 (k.ninths - 1)

unfoldable pub none : List (List ℕ) → Bool
none [] = true
none (l ∷ ls) = false

-- the lines ls of the damaged log, of which the first begins at a place
unfoldable pub sift : Kept → ℕ → List (List ℕ) → Kept
sift k at [] = k
sift k at (l ∷ ls) = sift (behind_line k at l (fate_of k (none ls) l)) (at + length l) ls

-- "If the first line isn't `log=1` with its line feed, add that in front."
unfoldable pub begun : List Entry → Kept
begun list = record { new = line_text Header; list = list; second = true; depth = 0; ninths = 0; stopped = false }

unfoldable pub sifted : List ℕ → Kept
sifted log =
    pick (starts_with (line_text Header) log)
    (sift (begun []) 6 (lines_of (drop 6 log)))
    (sift (begun (added 0 ∷ [])) 0 (lines_of log))

-- a line added behind what has been kept
unfoldable pub adding : Kept → List ℕ → Kept
adding k text = record { new = k.new ++ text; list = k.list ++ (added (length k.new) ∷ []); second = k.second; depth = k.depth; ninths = k.ninths; stopped = k.stopped }

-- "At the end add a `done` for each open loop"
unfoldable pub closed_by : ℕ → Kept → Kept
closed_by zero k = k
closed_by (suc d) k = closed_by d (adding k (line_text Done))

unfoldable pub closed : List ℕ → Kept
closed log = closed_by (sifted log).depth (sifted log)

-- "and, if none stayed, a right `stop`"
unfoldable pub ended : Kept → Kept
ended k = pick k.stopped k (adding k (line_text (Stop (clocks (kept_tree k.new)))))

unfoldable pub mended : List ℕ → Kept
mended log = ended (closed log)

-- what the repaired log stands for
unfoldable pub ended_tree : Kept → Tree
ended_tree k = pick k.stopped (tree_of k.new) (kept_tree k.new)

unfoldable pub mended_tree : List ℕ → Tree
mended_tree log = ended_tree (closed log)
