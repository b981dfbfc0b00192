-- A sampler fed one level, and lists of levels joined. Assumes nothing.
use Prim.Native.Nat.{ℕ, ◌+◌, ◌/◌, ◌≤◌, ◌<◌}
use mathlib.Core.Path.{◌≡◌, refl, sym}
use mathlib.Core.Bool.{Bool, true, false}
use mathlib.Core.List.{List, [], ◌∷◌, ◌++◌, append_assoc}
use native.Mathlib.Nat.{add-zero}
use native.Mathlib.Omega.{arith}
use lib.ListN.{length, length-append}
use borrow.Author.Tests.{le-leb, lt-leb}
use Rattle.arith.specs.Pick.{pick}
use Rattle.wav_sample.specs.declared.Sampler.{Sampler}
use Rattle.wav_sample.specs.Samples.{clocks_before, clocks_of}
use Rattle.wav_sample.specs.Sampler.{sampler_of, whole_next, given_by, fed, sampled_from, sampler_after}

module _ (pal : Bool) (rate : ℕ) where
  -- ONE LEVEL, by whether it makes the sample under way whole
  pub given_none : (v : ℕ) (a : Sampler) → a.clock + 1 < clocks_before pal rate (a.sample + 1) → given_by pal rate v a ≡ []
  unfolding given_by whole_next
  given_none v a h = rw (lt-leb (clocks_before pal rate (a.sample + 1)) (a.clock + 1) h)

  pub fed_none : (v : ℕ) (a : Sampler) → a.clock + 1 < clocks_before pal rate (a.sample + 1)
      → fed pal rate v a ≡ sampler_of (a.clock + 1) a.sample (a.sum + v)
  unfolding fed whole_next
  fed_none v a h = rw (lt-leb (clocks_before pal rate (a.sample + 1)) (a.clock + 1) h)

  pub given_whole : (v : ℕ) (a : Sampler) → clocks_before pal rate (a.sample + 1) ≤ a.clock + 1
      → given_by pal rate v a ≡ (a.sum + v) / clocks_of pal rate a.sample ∷ []
  unfolding given_by whole_next
  given_whole v a h = rw (le-leb (clocks_before pal rate (a.sample + 1)) (a.clock + 1) h)

  pub fed_whole : (v : ℕ) (a : Sampler) → clocks_before pal rate (a.sample + 1) ≤ a.clock + 1
      → fed pal rate v a ≡ sampler_of (a.clock + 1) (a.sample + 1) 0
  unfolding fed whole_next
  fed_whole v a h = rw (le-leb (clocks_before pal rate (a.sample + 1)) (a.clock + 1) h)

  -- LEVELS ONE AFTER THE OTHER
  pub sampled_none : (a : Sampler) → sampled_from pal rate a [] ≡ []
  unfolding sampled_from
  sampled_none a = refl

  pub after_none : (a : Sampler) → sampler_after pal rate a [] ≡ a
  unfolding sampler_after
  after_none a = refl

  pub sampled_first : (a : Sampler) (v : ℕ) (l : List ℕ) → sampled_from pal rate a (v ∷ l) ≡ given_by pal rate v a ++ sampled_from pal rate (fed pal rate v a) l
  unfolding sampled_from
  sampled_first a v l = refl

  pub after_first : (a : Sampler) (v : ℕ) (l : List ℕ) → sampler_after pal rate a (v ∷ l) ≡ sampler_after pal rate (fed pal rate v a) l
  unfolding sampler_after
  after_first a v l = refl

  -- LISTS JOINED
  pub sampled_join : (l m : List ℕ) (a : Sampler) → sampled_from pal rate a (l ++ m) ≡ sampled_from pal rate a l ++ sampled_from pal rate (sampler_after pal rate a l) m
  unfolding sampled_from sampler_after
  sampled_join [] m a = refl
  sampled_join (v ∷ l) m a = rw (sampled_join l m (fed pal rate v a)) (sym (append_assoc (given_by pal rate v a) _ _))

  pub after_join : (l m : List ℕ) (a : Sampler) → sampler_after pal rate a (l ++ m) ≡ sampler_after pal rate (sampler_after pal rate a l) m
  unfolding sampler_after
  after_join [] m a = refl
  after_join (v ∷ l) m a = after_join l m (fed pal rate v a)

  -- each level is a clock
  pub fed_clock : (v : ℕ) (a : Sampler) → (fed pal rate v a).clock ≡ a.clock + 1
  unfolding fed
  fed_clock v a = go (whole_next pal rate a)
    where
      go : (t : Bool) → (pick t (sampler_of (a.clock + 1) (a.sample + 1) 0) (sampler_of (a.clock + 1) a.sample (a.sum + v))).clock ≡ a.clock + 1
      go true = refl
      go false = refl

  pub after_clock : (l : List ℕ) (a : Sampler) → (sampler_after pal rate a l).clock ≡ a.clock + length l
  unfolding sampler_after
  after_clock [] a = sym (add-zero a.clock)
  after_clock (v ∷ l) a = let e = after_clock l (fed pal rate v a) in let f = fed_clock v a in omega arith

  -- each sample given is one more
  fed_sample : (v : ℕ) (a : Sampler) → ((fed pal rate v a).sample ≡ a.sample + length (given_by pal rate v a)) × (length (given_by pal rate v a) ≤ 1)
  unfolding fed given_by
  fed_sample v a = by (whole_next pal rate a) _
    where
      by : (t : Bool) (x : ℕ)
          → ((pick t (sampler_of (a.clock + 1) (a.sample + 1) 0) (sampler_of (a.clock + 1) a.sample (a.sum + v))).sample ≡ a.sample + length (pick t (x ∷ []) [])) × (length (pick t (x ∷ []) []) ≤ 1)
      by true x = (refl, omega arith)
      by false x = (omega arith, omega arith)

  pub after_sample : (l : List ℕ) (a : Sampler)
      → ((sampler_after pal rate a l).sample ≡ a.sample + length (sampled_from pal rate a l)) × (length (sampled_from pal rate a l) ≤ length l)
  unfolding sampler_after sampled_from
  after_sample [] a = (omega arith, omega arith)
  after_sample (v ∷ l) a =
      let h = after_sample l (fed pal rate v a) in
      let f = fed_sample v a in
      let j = length-append (given_by pal rate v a) (sampled_from pal rate (fed pal rate v a) l) in
      (omega (arith, h.0, f.0, j), omega (arith, h.1, f.1, j))
