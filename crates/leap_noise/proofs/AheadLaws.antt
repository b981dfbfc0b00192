-- The look-ahead is a count of zeros. Assumes nothing.
use Prim.Native.Nat.{ℕ, zero, suc, ◌+◌, ◌/◌, ◌%◌, min}
use mathlib.Core.Path.{◌≡◌, refl}
use mathlib.Core.Bool.{Bool, true, false}
use native.Mathlib.Nat.{suc-add}
use native.Mathlib.Omega.{arith}
use lib.Count.{count_trailing_zeros, under}
use lib.Dec.{eqb}
use borrow.Author.Tests.{eqb-true, eqb-false}
use Rattle.arith.specs.Pick.{pick}
use Rattle.leap_noise.specs.Leap.{alike}

-- as many bits above bit 0 are as it is as there are zeros below the lowest set bit of half of it, rounded up
pub alike_zeros : (k r : ℕ) → alike k r ≡ count_trailing_zeros k (r / 2 + r % 2)
unfolding alike count_trailing_zeros
alike_zeros zero r = refl
alike_zeros (suc k) r = go (eqb (r / 2 % 2) (r % 2)) refl (alike_zeros k (r / 2))
  where
    go : (t : Bool) → eqb (r / 2 % 2) (r % 2) ≡ t → alike k (r / 2) ≡ count_trailing_zeros k (r / 2 / 2 + r / 2 % 2)
        → pick t (suc (alike k (r / 2))) 0 ≡ under ((r / 2 + r % 2) % 2) (count_trailing_zeros k ((r / 2 + r % 2) / 2))
    go true e ih =
        let h : r / 2 % 2 ≡ r % 2 = eqb-true _ _ e in
        let d : (r / 2 + r % 2) % 2 ≡ 0 = omega arith in
        let q : (r / 2 + r % 2) / 2 ≡ r / 2 / 2 + r / 2 % 2 = omega arith in
        rw (d, q, ih)
    go false e ih =
        let h : r / 2 % 2 ≡ r % 2 → ⊥ = eqb-false _ _ e in
        let d : (r / 2 + r % 2) % 2 ≡ 1 = omega arith in
        rw d

capped_under : (d t k z : ℕ) → min t k ≡ z → min (under d t) (suc k) ≡ under d z
capped_under zero t k z e = omega arith
capped_under (suc d) t k z e = omega arith

-- the zeros among the lowest k digits, from those among k + j
pub zeros_capped : (k j x : ℕ) → min (count_trailing_zeros (k + j) x) k ≡ count_trailing_zeros k x
unfolding count_trailing_zeros
zeros_capped zero j x = omega arith
zeros_capped (suc k) j x =
    rw (suc-add k j) (capped_under (x % 2) (count_trailing_zeros (k + j) (x / 2)) k (count_trailing_zeros k (x / 2)) (zeros_capped k j (x / 2)))
