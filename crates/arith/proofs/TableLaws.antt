-- A rule of a table, proved at all of its entries by one test that is computed. Assumes nothing.
use mathlib.Core.Path.{◌≡◌, ◌∙◌, subst, sym}
use mathlib.Core.Bool.{Bool, true, false}
use mathlib.Core.List.{List, [], ◌∷◌}
use Prim.Native.Nat.{ℕ, zero, suc, ◌+◌, ◌≤◌, ◌<◌, zero-le}
use native.Mathlib.Nat.{add-zero, zero-add, add-suc, suc-add, le_of_suc-le-suc, not-suc-le-zero}
use lib.Dec.{T}
use native.Mathlib.Omega.{arith}
use lib.ListN.{length, get_or, get_or-eq_default}
use Rattle.arith.specs.Pick.{both}
use Rattle.arith.specs.Table.{every}

head : (a b : Bool) → T (both a b) → T a
head true b t = tt
head false b t = t

rest : (a b : Bool) → T (both a b) → T b
rest true b t = t
rest false b t = absurd t

from : (f : ℕ → ℕ → Bool) (xs : List ℕ) (i : ℕ) → T (every f i xs) → (k : ℕ) → k < length xs → T (f (i + k) (get_or xs k 0))
from f [] i t k h = absurd (not-suc-le-zero h)
from f (x ∷ xs) i t zero h = subst (λ (m : ℕ). T (f m x)) (sym (add-zero i)) (head (f i x) (every f (suc i) xs) t)
from f (x ∷ xs) i t (suc k) h =
    subst (λ (m : ℕ). T (f m (get_or xs k 0))) (suc-add i k ∙ sym (add-suc i k))
    (from f xs (suc i) (rest (f i x) (every f (suc i) xs) t) k (le_of_suc-le-suc h))

-- the test holds at each place of the table
pub at : (f : ℕ → ℕ → Bool) (xs : List ℕ) → T (every f 0 xs) → (k : ℕ) → k < length xs → T (f k (get_or xs k 0))
at f xs t k h = subst (λ (m : ℕ). T (f m (get_or xs k 0))) (zero-add k) (from f xs 0 t k h)

-- s is none of the numbers below n, as the last arm of a `match` on s knows it
abbrev pub Passed : ℕ → ℕ → Type 0
Passed zero s = Unit {0}
Passed (suc n) s = Passed n s × (s ≡ n → ⊥)

passed : (n s : ℕ) → Passed n s → n ≤ s
passed zero s p = zero-le
passed (suc n) s p = let l : n ≤ s = passed n s p.0 in omega (arith, p.1)

-- past the end of a table of n entries stands 0
pub past_end : (xs : List ℕ) (n s : ℕ) → length xs ≡ n → Passed n s → 0 ≡ get_or xs s 0
past_end xs n s e p = sym (get_or-eq_default xs 0 {n = s} (rw e (passed n s p)))
