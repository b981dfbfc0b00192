-- A sampler in order stays in order. Assumes nothing.
use Prim.Native.Nat.{ℕ, zero, suc, ◌+◌, ◌-◌, ◌*◌, ◌≤◌, ◌<◌, zero-le}
use mathlib.Core.Path.{◌≡◌, refl}
use mathlib.Core.Bool.{Bool, true, false}
use mathlib.Core.List.{List, [], ◌∷◌}
use native.Mathlib.Omega.{arith}
use lib.Dec.{leb, ltb}
use lib.ListN.{length, replicate}
use borrow.Author.Tests.{leb-true, ltb-true, le-leb, lt-ltb, leb-false}
use Rattle.arith.specs.Pick.{both}
use Rattle.arith.proofs.PickLaws.{both_left, both_right}
use Rattle.reading.proofs.CountingLaws.{Most}
use Rattle.wav_sample.specs.declared.Sampler.{Sampler}
use Rattle.wav_sample.specs.Samples.{rate_right, clocks_before}
use Rattle.wav_sample.specs.Sampler.{sampler_start, fed, sampler_after, in_order}
use Rattle.wav_sample.proofs.ClockLaws.{before_zero, before_rises}
use Rattle.wav_sample.proofs.FeedLaws.{fed_none, fed_whole, fed_clock}

-- one level over and over is no higher
pub replicate_most : {limit : ℕ} (k v : ℕ) → v ≤ limit → Most limit (replicate k v)
replicate_most zero v low i = zero-le
replicate_most (suc k) v low zero = low
replicate_most (suc k) v low (suc i) = replicate_most k v low i

-- what it is to be in order
pub record Ordered (pal : Bool) (rate : ℕ) (a : Sampler) : Type 0 where
  pub clocks : a.clock ≤ 2000000000
  pub begun : clocks_before pal rate a.sample ≤ a.clock
  pub under : a.clock < clocks_before pal rate (a.sample + 1)
  pub total : a.sum ≤ 65535 * (a.clock - clocks_before pal rate a.sample)

module _ (pal : Bool) (rate : ℕ) where
  pub ordered : (a : Sampler) → in_order pal rate a ≡ true → Ordered pal rate a
  unfolding in_order
  ordered a e =
      let begin : ℕ = clocks_before pal rate a.sample in
      let next : ℕ = clocks_before pal rate (a.sample + 1) in
      let tot : Bool = leb a.sum (65535 * (a.clock - begin)) in
      let behind = both_right (leb a.clock 2000000000) (both (leb begin a.clock) (both (ltb a.clock next) tot)) e in
      let last = both_right (leb begin a.clock) (both (ltb a.clock next) tot) behind in
      record {
        clocks = leb-true a.clock 2000000000 (both_left (leb a.clock 2000000000) (both (leb begin a.clock) (both (ltb a.clock next) tot)) e);
        begun = leb-true begin a.clock (both_left (leb begin a.clock) (both (ltb a.clock next) tot) behind);
        under = ltb-true a.clock next (both_left (ltb a.clock next) tot last);
        total = leb-true a.sum (65535 * (a.clock - begin)) (both_right (ltb a.clock next) tot last);
      }

  pub in_order_lem : (a : Sampler) → Ordered pal rate a → in_order pal rate a ≡ true
  unfolding in_order
  in_order_lem a o =
      simp (le-leb a.clock 2000000000 o.clocks, le-leb (clocks_before pal rate a.sample) a.clock o.begun, lt-ltb a.clock (clocks_before pal rate (a.sample + 1)) o.under, le-leb a.sum (65535 * (a.clock - clocks_before pal rate a.sample)) o.total)

module _ (pal : Bool) (rate : ℕ) (right : rate_right rate ≡ true) where
  pub start_ordered : Ordered pal rate sampler_start
  start_ordered =
      let z = before_zero pal rate in
      let r = before_rises pal rate right 0 in
      record { clocks = omega arith; begun = omega arith; under = omega arith; total = omega arith }

  -- ONE LEVEL
  fed_ordered : (v : ℕ) (a : Sampler) → v ≤ 65535 → a.clock < 2000000000 → Ordered pal rate a → Ordered pal rate (fed pal rate v a)
  fed_ordered v a low early o = go (leb (clocks_before pal rate (a.sample + 1)) (a.clock + 1)) refl
    where
      go : (t : Bool) → leb (clocks_before pal rate (a.sample + 1)) (a.clock + 1) ≡ t → Ordered pal rate (fed pal rate v a)
      go true e =
          let w = leb-true (clocks_before pal rate (a.sample + 1)) (a.clock + 1) e in
          let r = before_rises pal rate right (a.sample + 1) in
          let n = o.under in
          rw (fed_whole pal rate v a w) (record { clocks = omega arith; begun = omega arith; under = omega arith; total = omega arith })
      go false e =
          let w = leb-false (clocks_before pal rate (a.sample + 1)) (a.clock + 1) e in
          let b = o.begun in
          let s = o.total in
          rw (fed_none pal rate v a w) (record { clocks = omega arith; begun = omega arith; under = omega arith; total = omega arith })

  -- LEVELS ONE AFTER THE OTHER
  after_ordered : (l : List ℕ) (a : Sampler) → Most 65535 l → a.clock + length l ≤ 2000000000 → Ordered pal rate a → Ordered pal rate (sampler_after pal rate a l)
  unfolding sampler_after
  after_ordered [] a low early o = o
  after_ordered (v ∷ l) a low early o =
      after_ordered l (fed pal rate v a) (λ i. low (suc i)) (let f = fed_clock pal rate v a in omega arith) (fed_ordered v a (low 0) (omega arith) o)

  -- by the test
  pub start_in_order : in_order pal rate sampler_start ≡ true
  start_in_order = in_order_lem pal rate sampler_start start_ordered

  pub fed_in_order : (v : ℕ) (a : Sampler) → v ≤ 65535 → a.clock < 2000000000 → in_order pal rate a ≡ true → in_order pal rate (fed pal rate v a) ≡ true
  fed_in_order v a low early e = in_order_lem pal rate (fed pal rate v a) (fed_ordered v a low early (ordered pal rate a e))

  pub after_in_order : (l : List ℕ) (a : Sampler) → Most 65535 l → a.clock + length l ≤ 2000000000 → in_order pal rate a ≡ true
      → in_order pal rate (sampler_after pal rate a l) ≡ true
  after_in_order l a low early e = in_order_lem pal rate (sampler_after pal rate a l) (after_ordered l a low early (ordered pal rate a e))
