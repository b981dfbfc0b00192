-- Item k of a log is the list's. Assumes nothing.
use Rattle.std.specs.Prelude.{Result, Ok, Err}
use mathlib.Core.Path.{◌≡◌, refl, ap}
use mathlib.Core.List.{List}
use mathlib.Core.Bool.{Bool}
use lib.Dec.{eqb, ltb}
use Rattle.refusal.specs.declared.Refusal.{Refusal}
use Rattle.refusal.specs.Refusal.{refusal}
use Rattle.arith.specs.Pick.{pick}
use Rattle.arith.proofs.PickLaws.{pick_each}
use Prim.Native.Nat.{ℕ, ◌≤◌, ◌<◌}
use native.Mathlib.Omega.{arith}
use borrow.Author.Tests.{eq-eqb, ne_eqb, lt-ltb, le-ltb, ltb-true, ltb-false}
use lib.ListN.{length, get_or, take, drop, drop_of_length-le}
use lib.Seq.{drop-cons}
use Rattle.log_line.specs.declared.Act.{Act}
use Rattle.log_line.specs.declared.Act.TheVariants.{Wait}
use Rattle.log_rules.specs.declared.Checked.{Checked}
use Rattle.log_rules.specs.Head.{start_of}
use Rattle.log_rules.specs.Tree.{Tree, acts, clocks, turns, log_text, Within}
use Rattle.log_rules.specs.Whole.{tree_of, check_of}
use Rattle.log_rules.proofs.CheckLaws.{acts_le}
use Rattle.log_item.specs.Items.{item_number, item_place, item_acts, nth, item_of, item_refusal, item_refusal_place, item_in}
use Rattle.log_item.specs.Walk.{acts_at}
use Rattle.log_passing.proofs.Passing.{clear, passes, passing, printed}
use Rattle.log_item.proofs.HopLaws.{acts_of}

module _ (log : List ℕ) (k : ℕ) where
  nth_is : (list : List Act) → (item_number (nth list k) ≡ pick (ltb k (length list)) 0 11) × (item_place (nth list k) ≡ 0) × (item_acts (nth list k) ≡ take 1 (drop k list))
  unfolding nth
  nth_is list =
      pick_each (λ x. (item_number x ≡ pick (ltb k (length list)) 0 11) × (item_place x ≡ 0) × (item_acts x ≡ take 1 (drop k list))) (ltb k (length list))
      (λ e. (rw e refl, refl, rw (drop-cons list k (Wait 0) (ltb-true k (length list) e)) refl))
      (λ e. (rw e refl, refl, rw (drop_of_length-le list (ltb-false k (length list) e)) refl))

  -- the number, place and value of what is answered
  item_is : (item_number (item_of log k) ≡ item_refusal log k) × (item_place (item_of log k) ≡ item_refusal_place log) × (item_acts (item_of log k) ≡ item_in log k)
  unfolding item_of item_refusal item_refusal_place item_in
  item_is =
      pick_each (λ x. (item_number x ≡ item_refusal log k) × (item_place x ≡ item_refusal_place log) × (item_acts x ≡ item_in log k)) (eqb (check_of log).number 0)
      (λ e. rw e (nth_is (acts (tree_of log))))
      (λ e. rw e (refl, refl, refl))

  -- the number that is answered
  pub item_number_lem : item_number (item_of log k) ≡ item_refusal log k
  item_number_lem = item_is.0

  pub item_numbers : (r : Result Act Refusal) → r ≡ item_of log k
      → (r ≡ item_of log k) × ((item_number r ≡ item_refusal log k) × ((item_place r ≡ item_refusal_place log) × (item_acts r ≡ item_in log k)))
  item_numbers r e = let i = item_is in rw e (refl, (i.0, (i.1, i.2)))

  pub item_refused : ((check_of log).number ≡ 0 → ⊥) → Err (refusal (check_of log).number (check_of log).place) ≡ item_of log k
  unfolding item_of
  item_refused h = rw (ne_eqb (check_of log).number 0 h)

  module _ (h : (check_of log).number ≡ 0) where
    -- the items that the check counts are the list's, and the block behind the head has them
    items_are : (check_of log).items ≡ length (acts (tree_of log))
    items_are = ap (λ (c : Checked). c.items) (passes (clear log h))

    acts_start : acts_at log (start_of log) 0 ≡ acts (tree_of log)
    acts_start = acts_of (passing log (clear log h)).reads

    items_few : length (acts (tree_of log)) ≤ 1000000
    items_few = let a = acts_le (tree_of log) in let b = (clear log h).in_turns in omega arith

    pub item_past : (check_of log).items ≤ k → Err (refusal 11 0) ≡ item_of log k
    unfolding item_of nth
    item_past p = rw (eq-eqb (check_of log).number 0 h, le-ltb k (length (acts (tree_of log))) (rw items_are at p))

    pub item_at : k < (check_of log).items → Ok (get_or (acts_at log (start_of log) 0) k (Wait 0)) ≡ item_of log k
    unfolding item_of nth
    item_at p = rw (eq-eqb (check_of log).number 0 h, lt-ltb k (length (acts (tree_of log))) (rw items_are at p), acts_start)

    -- what the walk asks for
    pub item_asks : k < (check_of log).items → (k ≤ 1000000) × (k < length (acts_at log (start_of log) 0))
    item_asks p = let q = rw items_are at p in let f = items_few in (omega arith, rw acts_start q)

-- item k of a tree's text, for either machine, is the list's k-th
pub item_text : (m : Bool) (t : Tree) (k : ℕ) → Within t 0 → clocks t ≤ 2000000000 → turns t ≤ 1000000 → length (log_text m t (clocks t)) ≤ 60000
    → item_of (log_text m t (clocks t)) k ≡ nth (acts t) k
unfolding item_of
item_text m t k w c n s = let p = printed m t w c n s in rw (p.0, p.1)
