-- How many clocks there is room for. Assumes nothing.
use Prim.Native.Nat.{ℕ, zero, suc, ◌+◌, ◌-◌, ◌≤◌, min}
use mathlib.Core.Path.{◌≡◌, refl, sym, ◌∙◌}
use mathlib.Core.Bool.{Bool, true, false}
use native.Mathlib.Omega.{arith}
use borrow.Author.Tests.{leb-true, leb-false}
use lib.Dec.{leb}
use Rattle.arith.specs.Pick.{both}
use Rattle.wav_sample.specs.declared.Sampler.{Sampler}
use Rattle.wav_sample.specs.Samples.{rate_right, clocks_before}
use Rattle.wav_sample.specs.Sampler.{in_order}
use Rattle.wav_sample.proofs.ClockLaws.{before_rises}
use Rattle.wav_sample.proofs.OrderLaws.{ordered}
use Rattle.wav_sample.proofs.FitLaws.{stands}
use Rattle.play_samples.specs.Writing.{Fit}

pub order_of : (pal : Bool) (rate : ℕ) (a b : Sampler) (t : Bool) → a ≡ b → t ≡ both (rate_right rate) (in_order pal rate a) → rate_right rate ≡ true → in_order pal rate b ≡ t
order_of pal rate a b t e h right = sym (h ∙ rw (right, e) refl)

module _ (pal : Bool) (rate : ℕ) where
  pub fit_few : (a : Sampler) (k : ℕ) → Fit pal rate a k → a.sample ≤ 400000000
  fit_few a k f = (stands pal rate a f.right f.order).few

  pub before_further : rate_right rate ≡ true → (n j : ℕ) → clocks_before pal rate n + j ≤ clocks_before pal rate (n + j)
  before_further right n zero = let e : n + 0 ≡ n = omega arith in rw e (omega arith)
  before_further right n (suc j) =
      let e : n + suc j ≡ n + j + 1 = omega arith in
      let h = before_further right n j in
      let r = before_rises pal rate right (n + j) in
      rw e (omega (arith, h, r))

  -- room for more than 2,000,000 samples is room for any wait
  pub clocks_few : (a : Sampler) (k room : ℕ) → Fit pal rate a k
      → min k (clocks_before pal rate (a.sample + min room 2000000) - a.clock) ≡ min k (clocks_before pal rate (a.sample + room) - a.clock)
  clocks_few a k room f = by (leb room 2000000) refl
    where
      by : (t : Bool) → leb room 2000000 ≡ t
          → min k (clocks_before pal rate (a.sample + min room 2000000) - a.clock) ≡ min k (clocks_before pal rate (a.sample + room) - a.clock)
      by true e = let m : min room 2000000 ≡ room = (let h = leb-true room 2000000 e in omega arith) in rw m refl
      by false e =
          let h = leb-false room 2000000 e in
          let u = (ordered pal rate a f.order).under in
          let few : a.sample + min room 2000000 ≡ a.sample + 1 + 1999999 = omega arith in
          let all : a.sample + room ≡ a.sample + 1 + (room - 1) = omega arith in
          let i = before_further f.right (a.sample + 1) 1999999 in
          let j = before_further f.right (a.sample + 1) (room - 1) in
          rw (few, all) (omega (arith, u, i, j, f.few, h))
