-- How large the numbers of a sampler can be. Assumes nothing.
use Prim.Native.Nat.{ℕ, ◌+◌, ◌*◌, ◌/◌, ◌≤◌, ◌<◌}
use mathlib.Core.Path.{◌≡◌, refl}
use mathlib.Core.Bool.{Bool, true, false}
use native.Mathlib.Nat.{zero-add, mul-div_cancel, le_trans, mul-le-mul, mul-le-mul_right, mul-le-mul_left, div-le_of_le-mul, div-lt_iff_lt-mul}
use native.Mathlib.Omega.{arith}
use Rattle.clock_rate.specs.Rate.{clock_rate}
use Rattle.wav_sample.specs.Samples.{rate_right, clocks_before}
use Rattle.wav_sample.specs.declared.Sampler.{Sampler}
use Rattle.wav_sample.specs.Sampler.{in_order}
use Rattle.wav_sample.proofs.ClockLaws.{right_low, right_top, clock_rate_low, clock_rate_top}
use Rattle.wav_sample.proofs.OrderLaws.{Ordered, ordered}

-- a level's product is no more than the highest level's
pub level_fits : (v k : ℕ) → v ≤ 65535 → v * k ≤ 65535 * k
level_fits v k h = mul-le-mul_right k h

module _ (pal : Bool) (rate : ℕ) (right : rate_right rate ≡ true) where
  pub rate_some : 0 < rate
  rate_some = omega (arith, right_low rate right)

  -- samples by clocks
  pub ticks_fit : (n : ℕ) → n ≤ 500000000 → n * clock_rate pal ≤ 894886500000000
  ticks_fit n h = le_trans (mul-le-mul h (clock_rate_top pal)) (omega arith)

  -- a sample that begins by a clock has no high number
  pub sample_fits : (n : ℕ) → clocks_before pal rate n ≤ 2001000000 → n ≤ 400000000
  unfolding clocks_before
  sample_fits n h =
      let few = (div-lt_iff_lt-mul {k = rate} {x = n * clock_rate pal} {y = 2001000001} rate_some).0 (omega arith) in
      let most : 2001000001 * rate ≤ 2001000001 * 192000 = mul-le-mul_left 2001000001 (right_top rate right) in
      let least : n * 1662607 ≤ n * clock_rate pal = mul-le-mul_left n (clock_rate_low pal) in
      omega arith

  -- clocks by the rate
  pub by_rate_fits : (c : ℕ) → c ≤ 4294967295 → (c + 1) * rate ≤ 824633720832000
  by_rate_fits c h = le_trans (mul-le-mul {n₂ = 4294967296} (omega arith) (right_top rate right)) (omega arith)

  pub by_rate_some : (c : ℕ) → 1 ≤ (c + 1) * rate
  by_rate_some c = le_trans (omega (arith, right_low rate right)) (mul-le-mul {n₁ = 1} {m₁ = rate} {n₂ = c + 1} {m₂ = rate} (omega arith) (omega arith))

-- the mean of levels is a level, and that of one level is that level
pub mean_fits : (total clocks : ℕ) → total ≤ 65535 * clocks → total / clocks ≤ 65535
mean_fits total clocks h = div-le_of_le-mul clocks {n = 65535} (omega arith)

pub mean_level : (v clocks : ℕ) → 0 < clocks → (0 + v * clocks) / clocks ≡ v
mean_level v clocks some = rw (zero-add (v * clocks)) (mul-div_cancel v some)

-- WHERE A SAMPLER STANDS that may be fed
pub record Stands (pal : Bool) (rate : ℕ) (a : Sampler) : Type 0 where
  pub order : Ordered pal rate a
  pub few : a.sample ≤ 400000000

pub stands : (pal : Bool) (rate : ℕ) (a : Sampler) → rate_right rate ≡ true → in_order pal rate a ≡ true → Stands pal rate a
stands pal rate a right order =
    let o = ordered pal rate a order in
    record { order = o; few = sample_fits pal rate right a.sample (omega (arith, o.clocks, o.begun)) }

-- a sample above all that a log has is out of order
pub high_sample : (pal : Bool) (rate : ℕ) (a : Sampler) → rate_right rate ≡ true → 400000000 < a.sample → in_order pal rate a ≡ false
high_sample pal rate a right h = go (in_order pal rate a) refl
  where
    go : (t : Bool) → in_order pal rate a ≡ t → t ≡ false
    go true e =
        let o = ordered pal rate a e in
        absurd (omega (arith, sample_fits pal rate right a.sample (omega (arith, o.clocks, o.begun))))
    go false e = refl
