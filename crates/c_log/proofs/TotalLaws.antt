-- What is answered about a whole log fits its bits. Assumes nothing.
use Prim.Native.Nat.{ℕ, ◌%◌, ◌^◌, ◌≤◌}
use mathlib.Core.Path.{◌≡◌}
use mathlib.Core.Bool.{Bool, true, false}
use mathlib.Core.List.{List}
use native.Mathlib.Omega.{arith}
use borrow.Author.Tests.{ltb-false}
use lib.ListN.{length}
use lib.Dec.{eqb, ltb}
use Rattle.arith.specs.Pick.{either}
use Rattle.arith.proofs.PickLaws.{pick_both, pick_each}
use Rattle.log_rules.specs.declared.Checked.{Checked}
use Rattle.log_rules.specs.Judge.{Verdict, right, wrong, judged}
use Rattle.log_rules.specs.Head.{machine_of}
use Rattle.log_rules.specs.Tree.{Tree, clocks, turns}
use Rattle.log_rules.specs.Whole.{tree_of, Stopping, stopping_of, check_refusal, heavy, weighed, unless_wrong, check_of}
use Rattle.log_rules.proofs.CheckLaws.{acts_le}

-- a place in a log has 24 bits
pub place_is : (place : ℕ) → place ≤ 60000 → place % 2 ^ 24 ≡ place
place_is place h = omega arith

-- turns and items are a log's that passes, or 0
pub record Counted (c : Checked) : Type 0 where
  pub turns : c.turns ≤ 1000000
  pub items : c.items ≤ 1000000

none : (k p : ℕ) → Counted (check_refusal k p)
none k p = record { turns = omega arith; items = omega arith }

light : (t : Tree) → heavy t ≡ false → turns t ≤ 1000000
unfolding heavy
light t h = go (ltb 2000000000 (clocks t)) h
  where
    go : (b : Bool) → either b (ltb 1000000 (turns t)) ≡ false → turns t ≤ 1000000
    go true f = absurd (let z : ◌≡◌ {A = ℕ} 0 1 = cc in omega arith)
    go false f = ltb-false 1000000 (turns t) f

weighed_counted : (m : Bool) (t : Tree) (s : Stopping) → Counted (weighed m t s)
unfolding weighed
weighed_counted m t s =
    pick_each Counted (heavy t) (λ e. none 9 s.place)
    (λ e.
    let l = light t e in
    let a = acts_le t in
    pick_both Counted (eqb s.number (clocks t)) (record { turns = l; items = omega arith }) (none 10 s.place))

unless_counted : (v : Verdict) (c : Checked) → Counted c → Counted (unless_wrong v c)
unfolding unless_wrong
unless_counted right c h = h
unless_counted (wrong k p) c h = none k p

pub counted : (log : List ℕ) → Counted (check_of log)
unfolding check_of
counted log =
    pick_each Counted (ltb 60000 (length log)) (λ e. none 5 0)
    (λ e. unless_counted (judged log) (weighed (machine_of log) (tree_of log) (stopping_of log)) (weighed_counted (machine_of log) (tree_of log) (stopping_of log)))
