-- Change request 14: a log rewritten with copies of lines as loops.
use Rattle.std.specs.Prelude.{ℕ, zero, suc, ◌+◌, ◌*◌, ◌-◌, List, Bool, length, take, leb, ltb}
use Rattle.arith.specs.Pick.{pick, both}
use Rattle.log_line.specs.declared.Act.{Act}
use Rattle.log_rules.specs.Head.{machine_of}
use Rattle.log_rules.specs.Tree.{Tree, end, act, loop, times, clocks, turns, text, log_text}
use Rattle.log_rules.specs.Whole.{tree_of}
use Rattle.log_fold_rules.specs.Ahead.{leading, in_front, copies_there}

-- "come out shorter in bytes as a loop": c copies of the lines b
unfoldable pub shorter : ℕ → List Act → Bool
shorter c b = ltb (length (text (loop c (in_front b end) end))) (length (text (in_front (times c b) end)))

-- p of the lines s stand there, "are followed by equal copies of themselves, and come out shorter in bytes as a loop"; and "a p whose loop would bring
-- the whole log, with folds made so far, over 1,000,000 turns is passed over": it has k turns so far, and the loop of c copies makes c more
unfoldable pub suits : ℕ → List Act → ℕ → ℕ → Bool
suits k s p c = both (leb p (length s)) (both (leb 2 c) (both (shorter c (take p s)) (leb (k + c) 1000000)))

-- copy the line; or write a loop of c turns over the next p lines
pub data Choice : Type 0 where
  plain : Choice
  fold : ℕ → ℕ → Choice

-- "the smallest p" that suits, of the n from p on
unfoldable pub choice_in : ℕ → ℕ → List Act → ℕ → Choice
choice_in zero k s p = plain
choice_in (suc n) k s p = pick (suits k s p (copies_there s p)) (fold p (copies_there s p)) (choice_in n k s (p + 1))

-- "from 1 to 16"
unfoldable pub choice : ℕ → List Act → Choice
choice k s = choice_in 16 k s 1

-- "Write that loop and go on behind it; if there is no such p, copy the line": the lines s ahead begin with a; `rec j c` is what comes out behind a and
-- j lines more, when c turns more have been made
unfoldable pub made : Act → List Act → (ℕ → ℕ → Tree) → Choice → Tree
made a s rec plain = act a (rec 0 0)
made a s rec (fold p c) = loop c (in_front (take p s) end) (rec (c * p - 1) c)

-- "From the left, at each wait, write or read outside a loop"; "Loops already there, and all other lines, are copied": what comes out of a block outside
-- all loops, of which j lines stand in a loop that is written already, the whole log having k turns so far
unfoldable pub folded : Tree → ℕ → ℕ → Tree
folded end j k = end
folded (loop n b t) j k = loop n b (folded t 0 k)
folded (act a t) zero k = made a (leading (act a t)) (λ j c. folded t j (k + c)) (choice k (leading (act a t)))
folded (act a t) (suc j) k = folded t j k

-- a whole tree, and a whole log: its head and its `stop` are copied
unfoldable pub folded_tree : Tree → Tree
folded_tree t = folded t 0 (turns t)

unfoldable pub folded_log : List ℕ → List ℕ
folded_log log = log_text (machine_of log) (folded_tree (tree_of log)) (clocks (tree_of log))
