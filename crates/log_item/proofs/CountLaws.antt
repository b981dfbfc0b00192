-- The k-th act of a loop, without unrolling it; and counts that were cut off. Assumes nothing.
use mathlib.Core.Path.{◌≡◌, refl, ap, sym, ◌∙◌}
use mathlib.Core.List.{List, ◌∷◌, ◌++◌}
use mathlib.Core.Bool.{Bool, true, false}
use Prim.Native.Nat.{ℕ, zero, suc, ◌+◌, ◌-◌, ◌*◌, ◌%◌, ◌≤◌, ◌<◌, min}
use native.Mathlib.Numerals.{sub-one}
use native.Mathlib.Omega.{arith}
use native.Mathlib.Nat.{zero-mul, suc-mul, mul-zero, mod-eq_of_lt, mod-eq-sub-mod, mul-le-mul, lt_of_lt_of_le}
use borrow.Author.Tests.{ltb-true, ltb-false, leb-true, leb-false}
use lib.ListN.{length, get_or, get_or-append}
use lib.Seq.{get_or-append-add}
use lib.Dec.{leb, ltb}
use Rattle.log_line.specs.declared.Act.{Act}
use Rattle.log_line.specs.declared.Act.TheVariants.{Wait}
use Rattle.log_rules.specs.Tree.{Tree, loop, acts, times}
use Rattle.log_rules.proofs.TotalLaws.{length_times}

-- past the first list
get_d_past : (xs ys : List Act) (k : ℕ) → length xs ≤ k → get_or (xs ++ ys) k (Wait 0) ≡ get_or ys (k - length xs) (Wait 0)
get_d_past xs ys k h =
    let e : k ≡ length xs + (k - length xs) = omega arith in
    ap (λ (j : ℕ). get_or (xs ++ ys) j (Wait 0)) e ∙ get_or-append-add xs ys (k - length xs) (Wait 0)

times_at : (n : ℕ) (l : List Act) (k : ℕ) → k < n * length l → get_or (times n l) k (Wait 0) ≡ get_or l (k % length l) (Wait 0)
unfolding times
times_at zero l k h = absurd (omega (arith, rw zero-mul at h))
times_at (suc n) l k h = go (ltb k (length l)) refl (λ i. times_at n l (k - length l) (omega (arith, rw suc-mul at h)))
  where
    go : (b : Bool) → ltb k (length l) ≡ b → (length l ≤ k → get_or (times n l) (k - length l) (Wait 0) ≡ get_or l ((k - length l) % length l) (Wait 0))
        → get_or (l ++ times n l) k (Wait 0) ≡ get_or l (k % length l) (Wait 0)
    go true e r = let i = ltb-true k (length l) e in rw (get_or-append l (times n l) (Wait 0) k i, mod-eq_of_lt i)
    go false e r = let i = ltb-false k (length l) e in rw (get_d_past l (times n l) k i, r i, mod-eq-sub-mod i)

module _ (n : ℕ) (b t : Tree) (k : ℕ) where
  -- an act of the loop is an act of its body
  pub nth_in : k < n * length (acts b) → get_or (acts (loop n b t)) k (Wait 0) ≡ get_or (acts b) (k % length (acts b)) (Wait 0)
  unfolding acts
  nth_in h = get_or-append (times n (acts b)) (acts t) (Wait 0) k (rw length_times h) ∙ times_at n (acts b) k h

  -- and behind the loop the count goes on
  pub nth_past : n * length (acts b) ≤ k → get_or (acts (loop n b t)) k (Wait 0) ≡ get_or (acts t) (k - n * length (acts b)) (Wait 0)
  unfolding acts
  nth_past h = get_d_past (times n (acts b)) (acts t) k (rw length_times h) ∙ ap (λ (j : ℕ). get_or (acts t) (k - j) (Wait 0)) (length_times n (acts b))

pub get_d_cons : (a : Act) (xs : List Act) (r : ℕ) → 0 < r → get_or (a ∷ xs) r (Wait 0) ≡ get_or xs (r - 1) (Wait 0)
get_d_cons a xs zero h = absurd (omega arith)
get_d_cons a xs (suc r) h = rw sub-one

-- a count that was cut off serves up to what a log may have

pub cap_mod : (r len : ℕ) → r ≤ 1000000 → r % min 1000001 len ≡ r % len
cap_mod r len h = go (leb len 1000001) refl
  where
    go : (b : Bool) → leb len 1000001 ≡ b → r % min 1000001 len ≡ r % len
    go true e = let l = leb-true len 1000001 e in ap (λ (m : ℕ). r % m) (omega arith)
    go false e =
        let l = leb-false len 1000001 e in
        mod-eq_of_lt {n = r} {m = min 1000001 len} (omega arith) ∙ sym (mod-eq_of_lt {n = r} {m = len} (omega arith))

-- where the capped product is at most r, nothing was cut off
pub cap_mul : (n r len : ℕ) → r ≤ 1000000 → n * min 1000001 len ≤ r → n * min 1000001 len ≡ n * len
cap_mul zero r len h k = zero-mul (min 1000001 len) ∙ sym (zero-mul len)
cap_mul (suc n) r len h k =
    let j = rw suc-mul at k in
    let m : min 1000001 len ≡ len = omega arith in
    ap (λ (z : ℕ). suc n * z) m

pub lt_cap : (n r len : ℕ) → r < n * min 1000001 len → r < n * len
lt_cap n r len h = lt_of_lt_of_le h (mul-le-mul {n₁ = n} {m₁ = min 1000001 len} {n₂ = n} {m₂ = len} (omega arith) (omega arith))

pub pos_of : (n r m : ℕ) → r < n * m → 0 < m
pos_of n r zero h = absurd (omega (arith, rw mul-zero at h))
pos_of n r (suc m) h = omega arith
