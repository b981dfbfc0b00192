-- The test of a table and what it stands for. Assumes nothing.
use Prim.Native.Nat.{ℕ, zero, suc, ◌≤◌, ◌<◌, zero-le, suc-le-suc}
use mathlib.Core.Path.{◌≡◌, refl, sym}
use mathlib.Core.Bool.{Bool, true, false}
use mathlib.Core.List.{List, [], ◌∷◌}
use lib.Dec.{leb}
use lib.ListN.{length, get_or}
use borrow.Author.Tests.{le-leb, leb-true}
use Rattle.std.specs.Prelude.{IsTrue, EachIndex, ◌↔◌}
use Rattle.arith.proofs.PickLaws.{both_left, both_right, both_true}
use Rattle.run_dwell.specs.Dwell.{counts_within}

pub within_most : (limit : ℕ) (cs : List ℕ) → counts_within limit cs ≡ true → (i : ℕ) → get_or cs i 0 ≤ limit
unfolding counts_within
within_most limit [] e i = zero-le
within_most limit (n ∷ ns) e zero = leb-true n limit (both_left (leb n limit) (counts_within limit ns) e)
within_most limit (n ∷ ns) e (suc i) = within_most limit ns (both_right (leb n limit) (counts_within limit ns) e) i

pub within_all : (limit : ℕ) (cs : List ℕ) → ((i : ℕ) → i < length cs → get_or cs i 0 ≤ limit) → counts_within limit cs ≡ true
unfolding counts_within
within_all limit [] h = refl
within_all limit (n ∷ ns) h = both_true _ _ (le-leb n limit (h 0 (suc-le-suc zero-le))) (within_all limit ns (λ i q. h (suc i) (suc-le-suc q)))

-- a test whose yes says that each count is up to the limit is that one
pub within_by : (limit : ℕ) (cs : List ℕ) (b : Bool) → (IsTrue b ↔ EachIndex cs (λ k. get_or cs k 0 ≤ limit)) → b ≡ counts_within limit cs
within_by limit cs true h = sym (within_all limit cs (h.0 refl))
within_by limit cs false h = go (counts_within limit cs) refl
  where
    go : (t : Bool) → counts_within limit cs ≡ t → false ≡ t
    go true e = h.1 (λ k q. within_most limit cs e k)
    go false e = refl
