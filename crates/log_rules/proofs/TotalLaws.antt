-- Laws of totals that are cut off. Assumes nothing.
use mathlib.Core.Path.{◌≡◌, refl, ap, sym, ◌∙◌}
use mathlib.Core.List.{List, ◌++◌}
use mathlib.Core.Bool.{Bool, true, false}
use Prim.Native.Nat.{ℕ, zero, suc, ◌+◌, ◌*◌, ◌≤◌, min}
use native.Mathlib.Omega.{arith}
use native.Mathlib.Nat.{zero-mul, suc-mul, zero-add, add_comm}
use borrow.Author.Tests.{leb-true, leb-false}
use lib.ListN.{length, length-append}
use lib.Dec.{leb}
use Rattle.log_line.specs.declared.Act.{Act}
use Rattle.log_rules.specs.declared.Totals.{Totals}
use Rattle.log_rules.specs.Tree.{Tree, act, loop, acts, times, act_clocks, clocks, turns}
use Rattle.log_rules.specs.Block.{cut, no_totals, sum_of, times_of, Small, totals}

pub totals≡ : {a b c a' b' c' : ℕ} → a ≡ a' → b ≡ b' → c ≡ c' → ◌≡◌ {A = Totals} (record { clocks = a; turns = b; items = c }) (record { clocks = a'; turns = b'; items = c' })
totals≡ p q r i = record { clocks = p i; turns = q i; items = r i }

pub sum_sum : (a b c : Totals) → sum_of a (sum_of b c) ≡ sum_of (sum_of a b) c
sum_sum a b c = totals≡ (omega arith) (omega arith) (omega arith)

pub none_sum : (t : Tree) → totals t ≡ sum_of no_totals (totals t)
unfolding totals
none_sum t = totals≡ (omega arith) (omega arith) (omega arith)

pub small_sum : (t : Totals) → Small t → t ≡ sum_of t no_totals
small_sum t h = totals≡ (omega arith) (omega arith) (omega arith)

pub small_cut : (c t a : ℕ) → Small (cut c t a)
small_cut c t a = record { clocks = omega arith; turns = omega arith; items = omega arith }

pub length_times : (n : ℕ) (l : List Act) → length (times n l) ≡ n * length l
unfolding times
length_times zero l = sym (zero-mul (length l))
length_times (suc n) l = length-append l (times n l) ∙ (ap (λ (x : ℕ). length l + x) (length_times n l) ∙ (sym (add_comm (n * length l) (length l)) ∙ sym (suc-mul n (length l))))

pub act_sum : (a : Act) (t : Tree) → totals (act a t) ≡ sum_of (cut (act_clocks a) 1 1) (totals t)
unfolding totals clocks turns acts
act_sum a t = totals≡ (omega arith) (omega arith) (omega arith)

pub loop_sum : (n : ℕ) (b t : Tree) → totals (loop n b t) ≡ sum_of (cut (n * clocks b) (n * (1 + turns b)) (n * length (acts b))) (totals t)
unfolding totals clocks turns acts
loop_sum n b t =
    let l : length (times n (acts b) ++ acts t) ≡ n * length (acts b) + length (acts t) = length-append (times n (acts b)) (acts t) ∙ ap (λ (x : ℕ). x + length (acts t)) (length_times n (acts b)) in
    totals≡ (omega arith) (omega arith) (rw l (omega arith))

high : (m n a b : ℕ) → m ≤ a → m ≤ b → min m (n * a) ≡ min m (n * b)
high m zero a b h k = rw (zero-mul, zero-mul)
high m (suc n) a b h k = rw (suc-mul n a, suc-mul n b) (omega arith)

-- a product of what was cut off, cut off again
trim : (m n x k : ℕ) → min m (n * (k + min m x)) ≡ min m (n * (k + x))
trim m n x k = go (leb x m) refl
  where
    go : (b : Bool) → leb x m ≡ b → min m (n * (k + min m x)) ≡ min m (n * (k + x))
    go true e = let h = leb-true x m e in ap (λ (z : ℕ). min m (n * (k + z))) (omega arith)
    go false e = let h = leb-false x m e in high m n (k + min m x) (k + x) (omega arith) (omega arith)

pub times_totals : (n : ℕ) (b : Tree) → times_of n (totals b) ≡ cut (n * clocks b) (n * (1 + turns b)) (n * length (acts b))
unfolding totals
times_totals n b =
    totals≡ (rw (zero-add, zero-add) at (trim 2000000001 n (clocks b) 0)) (trim 1000001 n (turns b) 1) (rw (zero-add, zero-add) at (trim 1000001 n (length (acts b)) 0))
