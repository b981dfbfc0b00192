-- The clocks of a sample by what is left over where it begins. Assumes nothing.
use Prim.Native.Nat.{ℕ, ◌+◌, ◌-◌, ◌*◌, ◌/◌, ◌%◌, ◌≤◌, ◌<◌}
use mathlib.Core.Path.{◌≡◌, refl, ap, ◌∙◌}
use mathlib.Core.Bool.{Bool, true, false}
use native.Mathlib.Nat.{add-mul, add-mod, mod-lt, mod-eq_of_lt, mod-eq-sub-mod, div-add-mod', mul-add-div_right, div-eq_of_lt, div-eq-sub-div, div-lt_iff_lt-mul}
use native.Mathlib.Omega.{arith}
use lib.Dec.{ltb}
use borrow.Author.Tests.{ltb-true, ltb-false}
use Rattle.clock_rate.specs.Rate.{clock_rate}
use Rattle.wav_sample.specs.Samples.{rate_right, clocks_before, clocks_of}
use Rattle.wav_sample.specs.Closed.{over_before}
use Rattle.wav_sample.proofs.ClockLaws.{right_low, clock_rate_top, more}
use Rattle.wav_sample.proofs.FitLaws.{rate_some}

-- a sum divided part by part
sum_parts : (x y r : ℕ) → 0 < r → (x + y) / r ≡ x / r + y / r + (x % r + y % r) / r
sum_parts x y r h =
    let e : x + y ≡ (x / r + y / r) * r + (x % r + y % r) = omega (arith, div-add-mod' x r, div-add-mod' y r, add-mul (x / r) (y / r) r) in
    ap (λ (n : ℕ). n / r) e ∙ mul-add-div_right h (x / r + y / r) (x % r + y % r)

module _ (pal : Bool) (rate : ℕ) (right : rate_right rate ≡ true) where
  clocks_by : (n : ℕ) → clocks_of pal rate n ≡ clock_rate pal / rate + (over_before pal rate n + clock_rate pal % rate) / rate
  unfolding clocks_of clocks_before over_before
  clocks_by n =
      let s = sum_parts (n * clock_rate pal) (clock_rate pal) rate (rate_some pal rate right) in
      rw (more n (clock_rate pal)) (omega (arith, s))

  over_by : (n : ℕ) → over_before pal rate (n + 1) ≡ (over_before pal rate n + clock_rate pal % rate) % rate
  unfolding over_before
  over_by n = rw (more n (clock_rate pal)) (add-mod (n * clock_rate pal) (clock_rate pal) rate)

  pub over_low : (n : ℕ) → over_before pal rate n < rate
  unfolding over_before
  over_low n = mod-lt (n * clock_rate pal) (rate_some pal rate right)

  -- THE CLOCKS OF SAMPLE n, and what is left over behind it: where that is less than one,
  pub clocks_even : (n : ℕ) → over_before pal rate n + clock_rate pal % rate < rate
      → (clocks_of pal rate n ≡ clock_rate pal / rate) × (over_before pal rate (n + 1) ≡ over_before pal rate n + clock_rate pal % rate)
  clocks_even n h = (omega (arith, clocks_by n, div-eq_of_lt h), over_by n ∙ mod-eq_of_lt h)

  -- or it makes one more
  pub clocks_more : (n : ℕ) → rate ≤ over_before pal rate n + clock_rate pal % rate
      → (clocks_of pal rate n ≡ clock_rate pal / rate + 1) × (over_before pal rate (n + 1) ≡ over_before pal rate n + clock_rate pal % rate - rate)
  clocks_more n h =
      let o = over_low n in
      let m : clock_rate pal % rate < rate = mod-lt (clock_rate pal) (rate_some pal rate right) in
      let low : over_before pal rate n + clock_rate pal % rate - rate < rate = omega arith in
      (omega (arith, clocks_by n, div-eq-sub-div (rate_some pal rate right) h, div-eq_of_lt low), over_by n ∙ (mod-eq-sub-mod h ∙ mod-eq_of_lt low))

  -- a sample is short
  pub clocks_few : (n : ℕ) → clocks_of pal rate n ≤ 224
  clocks_few n = go (ltb (over_before pal rate n + clock_rate pal % rate) rate) refl
    where
      q : clock_rate pal / rate < 224
      q = (div-lt_iff_lt-mul {k = rate} {x = clock_rate pal} {y = 224} (rate_some pal rate right)).1 (omega (arith, clock_rate_top pal, right_low rate right))

      go : (t : Bool) → ltb (over_before pal rate n + clock_rate pal % rate) rate ≡ t → clocks_of pal rate n ≤ 224
      go true e = omega (arith, q, (clocks_even n (ltb-true _ _ e)).0)
      go false e = omega (arith, q, (clocks_more n (ltb-false _ _ e)).0)
