-- Where samples begin, and how many are whole by a clock. Assumes nothing.
use Prim.Native.Nat.{ℕ, zero, suc, ◌+◌, ◌-◌, ◌*◌, ◌/◌, ◌≤◌, ◌<◌, zero-le}
use mathlib.Core.Path.{◌≡◌, refl}
use mathlib.Core.Bool.{Bool, true, false}
use native.Mathlib.Nat.{zero-mul, suc-mul, zero-div, div-mul-le_self, div-lt_iff_lt-mul, le-div_iff_mul-le}
use native.Mathlib.Numerals.{add-one}
use native.Mathlib.Omega.{arith}
use lib.Dec.{leb}
use borrow.Author.Tests.{leb-true, leb-false}
use Rattle.arith.proofs.PickLaws.{both_left, both_right}
use Rattle.clock_rate.specs.Rate.{clock_rate}
use Rattle.wav_sample.specs.Samples.{rate_right, clocks_before}
use Rattle.wav_sample.specs.Closed.{whole_by}

pub right_low : (rate : ℕ) → rate_right rate ≡ true → 8000 ≤ rate
unfolding rate_right
right_low rate e = leb-true 8000 rate (both_left (leb 8000 rate) (leb rate 192000) e)

pub right_top : (rate : ℕ) → rate_right rate ≡ true → rate ≤ 192000
unfolding rate_right
right_top rate e = leb-true rate 192000 (both_right (leb 8000 rate) (leb rate 192000) e)

pub clock_rate_low : (pal : Bool) → 1662607 ≤ clock_rate pal
unfolding clock_rate
clock_rate_low true = omega arith
clock_rate_low false = omega arith

pub clock_rate_top : (pal : Bool) → clock_rate pal ≤ 1789773
unfolding clock_rate
clock_rate_top true = omega arith
clock_rate_top false = omega arith

-- one more of something
pub more : (n m : ℕ) → (n + 1) * m ≡ n * m + m
more n m = rw (add-one n) (suc-mul n m)

module _ (pal : Bool) (rate : ℕ) where
  pub before_zero : clocks_before pal rate 0 ≡ 0
  unfolding clocks_before
  before_zero = rw zero-mul (zero-div rate)

module _ (pal : Bool) (rate : ℕ) (right : rate_right rate ≡ true) where
  -- a sample has a clock of its own
  pub before_rises : (n : ℕ) → clocks_before pal rate n < clocks_before pal rate (n + 1)
  unfolding clocks_before
  before_rises n =
      let low = right_low rate right in
      let f = clock_rate_low pal in
      let top = right_top rate right in
      let d = div-mul-le_self (n * clock_rate pal) rate in
      let e : n * clock_rate pal / rate + 1 ≤ (n + 1) * clock_rate pal / rate =
      (le-div_iff_mul-le {k = rate} {x = n * clock_rate pal / rate + 1} {y = (n + 1) * clock_rate pal} (omega arith)).1
      (omega (arith, more (n * clock_rate pal / rate) rate, more n (clock_rate pal))) in
      omega arith

  pub before_onward : (n k : ℕ) → clocks_before pal rate n ≤ clocks_before pal rate (n + k)
  before_onward n zero = let e : n + 0 ≡ n = omega arith in rw e (omega arith)
  before_onward n (suc k) =
      let h = before_onward n k in
      let r = before_rises (n + k) in
      let e : n + suc k ≡ n + k + 1 = omega arith in
      rw e (omega arith)

  -- and starts no sooner than its number
  pub before_least : (n : ℕ) → n ≤ clocks_before pal rate n
  before_least zero = zero-le
  before_least (suc n) = let h = before_least n in let r = before_rises n in rw (← add-one n) (omega arith)

  -- SAMPLES WHOLE BY A CLOCK: those that end by it, and no others
  pub whole_ends : (n c : ℕ) → n ≤ whole_by pal rate c → clocks_before pal rate n ≤ c
  unfolding whole_by clocks_before
  whole_ends n c h =
      let low = right_low rate right in
      let f = clock_rate_low pal in
      let p = (le-div_iff_mul-le {k = clock_rate pal} {x = n} {y = (c + 1) * rate - 1} (omega arith)).0 h in
      let e : n * clock_rate pal / rate < c + 1 =
      (div-lt_iff_lt-mul {k = rate} {x = n * clock_rate pal} {y = c + 1} (omega arith)).1 (omega (arith, more c rate)) in
      omega arith

  pub ends_whole : (n c : ℕ) → clocks_before pal rate n ≤ c → n ≤ whole_by pal rate c
  unfolding whole_by clocks_before
  ends_whole n c h =
      let low = right_low rate right in
      let f = clock_rate_low pal in
      let p = (div-lt_iff_lt-mul {k = rate} {x = n * clock_rate pal} {y = c + 1} (omega arith)).0 (omega arith) in
      (le-div_iff_mul-le {k = clock_rate pal} {x = n} {y = (c + 1) * rate - 1} (omega arith)).1 (omega arith)

  -- the others end later
  pub whole_past : (n c : ℕ) → whole_by pal rate c < n → c < clocks_before pal rate n
  whole_past n c h = go (leb (clocks_before pal rate n) c) refl
    where
      go : (t : Bool) → leb (clocks_before pal rate n) c ≡ t → c < clocks_before pal rate n
      go true e = absurd (let w = ends_whole n c (leb-true (clocks_before pal rate n) c e) in omega arith)
      go false e = leb-false (clocks_before pal rate n) c e

  pub whole_most : (c : ℕ) → whole_by pal rate c ≤ c
  whole_most c =
      let b = before_least (whole_by pal rate c) in
      let e = whole_ends (whole_by pal rate c) c (omega arith) in
      omega arith
