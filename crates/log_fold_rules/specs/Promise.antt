-- What is promised of a folded log: "The folded log must pass, stand for the same list of accesses and waits on the same machine with the same end, and
-- never be longer than the original."
use Rattle.std.specs.Prelude.{ℕ, ◌≤◌, ◌≡◌, List, false, length}
use Rattle.log_rules.specs.Head.{machine_of}
use Rattle.log_rules.specs.Tree.{Tree, end, act, loop, acts}
use Rattle.log_rules.specs.Whole.{tree_of, stopping_of, check_of}
use Rattle.log_fold_rules.specs.Ahead.{leading, copies_there}
use Rattle.log_fold_rules.specs.Folding.{suits}

pub record Folds (log new : List ℕ) : Type 0 where
  pub passes : (check_of new).number ≡ 0
  pub same_list : acts (tree_of new) ≡ acts (tree_of log)
  pub same_machine : machine_of new ≡ machine_of log
  pub same_end : (stopping_of new).number ≡ (stopping_of log).number
  pub not_longer : length new ≤ length log

-- nothing can be folded, the whole log having k turns: at no wait, write or read outside a loop does one of the 16 p suit
abbrev pub NoneSuits : ℕ → Tree → Type 0
NoneSuits k end = Unit {0}
NoneSuits k (act a t) = ((p : ℕ) → 1 ≤ p → p ≤ 16 → suits k (leading (act a t)) p (copies_there (leading (act a t)) p) ≡ false) × NoneSuits k t
NoneSuits k (loop n b t) = NoneSuits k t
