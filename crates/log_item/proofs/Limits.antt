-- What is answered about items is within document 01's limits. Assumes nothing.
use Rattle.std.specs.Prelude.{Result, Ok, Err}
use mathlib.Core.Path.{◌≡◌}
use mathlib.Core.List.{List, [], ◌∷◌}
use Prim.Native.Nat.{ℕ, zero, suc, ◌≤◌, ◌<◌}
use native.Mathlib.Omega.{arith}
use borrow.Author.Tests.{eqb-true, ltb-true}
use lib.ListN.{length, get_or}
use lib.Dec.{eqb, ltb}
use Rattle.refusal.specs.declared.Refusal.{Refusal}
use Rattle.refusal.specs.Refusal.{refusal}
use Rattle.arith.proofs.PickLaws.{pick_each}
use Rattle.log_line.specs.declared.Act.{Act}
use Rattle.log_line.specs.declared.Act.TheVariants.{Wait}
use Rattle.log_line.specs.Printed.{Allowed}
use Rattle.log_rules.specs.Tree.{acts, act_clocks}
use Rattle.log_rules.specs.Whole.{tree_of, check_of}
use Rattle.log_rules.proofs.Limits.{check_limits}
use Rattle.log_item.specs.Items.{nth, item_of}
use Rattle.log_passing.proofs.ActLaws.{Every, every_acts}
use Rattle.log_passing.proofs.Passing.{stands}

every_at : (l : List Act) (k : ℕ) → k < length l → Every l → Allowed (get_or l k (Wait 0))
every_at [] k h g = absurd (omega arith)
every_at (a ∷ l) zero h g = g.0
every_at (a ∷ l) (suc k) h g = every_at l k (omega arith) g.1

-- an item is within the limits; a refusal's number is in the table, and its place in the log
abbrev pub FoundIn : Result Act Refusal → Type 0
FoundIn (Ok a) = Allowed a
FoundIn (Err e) = (e.number ≤ 19) × (e.place ≤ 60000)

nth_in_limits : (l : List Act) (k : ℕ) → Every l → FoundIn (nth l k)
unfolding nth
nth_in_limits l k h = pick_each FoundIn (ltb k (length l)) (λ e. every_at l k (ltb-true k (length l) e) h) (λ e. (omega arith, omega arith))

pub item_limits : (log : List ℕ) (k : ℕ) → FoundIn (item_of log k)
unfolding item_of
item_limits log k =
    pick_each FoundIn (eqb (check_of log).number 0)
    (λ e. nth_in_limits (acts (tree_of log)) k (every_acts (tree_of log) 0 (stands log (eqb-true (check_of log).number 0 e)).within))
    (λ e. (omega (arith, (check_limits log).number), (check_limits log).place))

module _ (log : List ℕ) (k : ℕ) where
  pub item_waits : (a : Act) → item_of log k ≡ Ok a → act_clocks a ≤ 1000000
  unfolding act_clocks
  item_waits (Wait n) e = (rw e at (item_limits log k)).1
  item_waits (Act.Access x) e = omega arith

  pub item_place_lem : (n p : ℕ) → item_of log k ≡ Err (refusal n p) → p ≤ 60000
  item_place_lem n p e = (rw e at (item_limits log k)).1
