-- Item k of a log, counted from 0. Demand 2: "A log that passes stands for one list of accesses and waits, and item k of it is the
-- one handed out."
use Rattle.std.specs.Prelude.{ℕ, List, [], ◌∷◌, length, get_or, take, drop, eqb, ltb, Result, Ok, Err}
use Rattle.refusal.specs.declared.Refusal.{Refusal}
use Rattle.refusal.specs.Refusal.{refusal}
use Rattle.arith.specs.Pick.{pick}
use Rattle.log_line.specs.declared.Act.{Act}
use Rattle.log_line.specs.declared.Act.TheVariants.{Wait}
use Rattle.log_rules.specs.Tree.{acts}
use Rattle.log_rules.specs.Whole.{tree_of, check_of}

-- document 01's number and place for each answer: 0 at 0 for an act
abbrev pub item_number : Result Act Refusal → ℕ
item_number (Ok a) = 0
item_number (Err e) = e.number

abbrev pub item_place : Result Act Refusal → ℕ
item_place (Ok a) = 0
item_place (Err e) = e.place

-- and its value, the act
abbrev pub item_acts : Result Act Refusal → List Act
item_acts (Ok a) = a ∷ []
item_acts (Err e) = []

-- the k-th of a list of acts; 11 at 0: "item k asked for and the log has k or fewer"
unfoldable pub nth : List Act → ℕ → Result Act Refusal
nth list k = pick (ltb k (length list)) (Ok (get_or list k (Wait 0))) (Err (refusal 11 0))

-- "Numbers 11 and 12 follow all other log checks"
unfoldable pub item_refusal : List ℕ → ℕ → ℕ
item_refusal log k = pick (eqb (check_of log).number 0) (pick (ltb k (length (acts (tree_of log)))) 0 11) (check_of log).number

-- the place of a refusal, which is the check's and 0 for 11; and the value, item k of the list that the log stands for
unfoldable pub item_refusal_place : List ℕ → ℕ
item_refusal_place log = pick (eqb (check_of log).number 0) 0 (check_of log).place

unfoldable pub item_in : List ℕ → ℕ → List Act
item_in log k = pick (eqb (check_of log).number 0) (take 1 (drop k (acts (tree_of log)))) []

unfoldable pub item_of : List ℕ → ℕ → Result Act Refusal
item_of log k =
    pick (eqb (check_of log).number 0) (nth (acts (tree_of log)) k)
    (Err (refusal (check_of log).number (check_of log).place))
