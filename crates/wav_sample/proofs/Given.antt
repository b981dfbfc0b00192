-- THE LAW OF THE SAMPLER: fed all levels from its start, it gives the samples. Assumes nothing.
use Prim.Native.Nat.{ℕ, zero, suc, ◌+◌, ◌-◌, ◌/◌, ◌≤◌, ◌<◌}
use mathlib.Core.Path.{◌≡◌, refl, sym, ap, ap₂, ◌∙◌}
use mathlib.Core.Bool.{Bool, true, false}
use mathlib.Core.List.{List, [], ◌∷◌, ◌++◌, append_assoc}
use native.Mathlib.Omega.{arith}
use lib.Dec.{leb}
use lib.ListN.{length, take, drop, length-append, length-drop, drop_of_length-le}
use lib.Seq.{take_at, drop-append-le, drop-nil}
use borrow.Author.Tests.{leb-true, leb-false, le-leb, lt-leb}
use Rattle.reading.specs.Counting.{sum}
use Rattle.wav_sample.specs.declared.Sampler.{Sampler}
use Rattle.wav_sample.specs.Samples.{rate_right, clocks_before, clocks_of, sample_of, samples_from, samples_of}
use Rattle.wav_sample.specs.Sampler.{sampler_of, sampler_start, sampled_from}
use Rattle.wav_sample.proofs.ClockLaws.{before_zero, before_rises}
use Rattle.wav_sample.proofs.FeedLaws.{given_none, fed_none, given_whole, fed_whole, sampled_none, sampled_first}

sum_last : (l : List ℕ) (v : ℕ) → sum (l ++ (v ∷ [])) ≡ sum l + v
unfolding sum
sum_last [] v = omega arith
sum_last (x ∷ l) v = let e = sum_last l v in omega arith

sum_none : sum [] ≡ 0
unfolding sum
sum_none = refl

length_last : (l : List ℕ) (v : ℕ) → length (l ++ (v ∷ [])) ≡ length l + 1
length_last l v = length-append l (v ∷ [])

module _ (pal : Bool) (rate : ℕ) where
  -- no sample ends by the last clock,
  pub samples_none : (levels : List ℕ) (k n : ℕ) → length levels < clocks_before pal rate (n + 1) → samples_from pal rate levels k n ≡ []
  unfolding samples_from
  samples_none levels zero n h = refl
  samples_none levels (suc k) n h = rw (lt-leb (clocks_before pal rate (n + 1)) (length levels) h)

  -- or one does
  pub samples_first : (levels : List ℕ) (k n : ℕ) → clocks_before pal rate (n + 1) ≤ length levels
      → samples_from pal rate levels (suc k) n ≡ sample_of pal rate levels n ∷ samples_from pal rate levels k (n + 1)
  unfolding samples_from
  samples_first levels k n h = rw (le-leb (clocks_before pal rate (n + 1)) (length levels) h)

  -- the sample that level v makes whole
  sample_at : (p l : List ℕ) (v n : ℕ) → clocks_before pal rate n ≤ length p → clocks_before pal rate (n + 1) ≡ length p + 1
      → sample_of pal rate (p ++ v ∷ l) n ≡ (sum (drop (clocks_before pal rate n) p) + v) / clocks_of pal rate n
  unfolding sample_of clocks_of
  sample_at p l v n b e =
      let own : List ℕ = drop (clocks_before pal rate n) p in
      let size : length (own ++ (v ∷ [])) ≡ clocks_before pal rate (n + 1) - clocks_before pal rate n =
      length_last own v ∙ (rw (length-drop (clocks_before pal rate n) p) (omega arith)) in
      let cut : take (clocks_before pal rate (n + 1) - clocks_before pal rate n) (drop (clocks_before pal rate n) (p ++ v ∷ l)) ≡ own ++ (v ∷ []) =
      ap (take (clocks_before pal rate (n + 1) - clocks_before pal rate n)) (drop-append-le (clocks_before pal rate n) p (v ∷ l) b ∙ sym (append_assoc own (v ∷ []) l))
      ∙ take_at (own ++ (v ∷ [])) l (clocks_before pal rate (n + 1) - clocks_before pal rate n) size in
      ap (λ (x : List ℕ). sum x / (clocks_before pal rate (n + 1) - clocks_before pal rate n)) cut
      ∙ ap (λ (x : ℕ). x / (clocks_before pal rate (n + 1) - clocks_before pal rate n)) (sum_last own v)

  -- the sampler behind levels p, with sample n under way
  at : List ℕ → ℕ → Sampler
  at p n = sampler_of (length p) n (sum (drop (clocks_before pal rate n) p))

  -- from there on it gives the samples from n on
  Gives : List ℕ → List ℕ → Type 0
  Gives l p = (n k : ℕ) → length l ≤ k → clocks_before pal rate n ≤ length p → length p < clocks_before pal rate (n + 1)
      → sampled_from pal rate (at p n) l ≡ samples_from pal rate (p ++ l) k n

module _ (pal : Bool) (rate : ℕ) (right : rate_right rate ≡ true) where
  -- a level that makes none whole
  gives_on : (v : ℕ) (l p : List ℕ) → Gives pal rate l (p ++ (v ∷ [])) → (n k : ℕ) → length l ≤ k → clocks_before pal rate n ≤ length p
      → length p + 1 < clocks_before pal rate (n + 1) → sampled_from pal rate (at pal rate p n) (v ∷ l) ≡ samples_from pal rate (p ++ v ∷ l) k n
  unfolding Gives at
  gives_on v l p rest n k h b u =
      let size = length_last p v in
      let there : sampler_of (length p + 1) n (sum (drop (clocks_before pal rate n) p) + v) ≡ at pal rate (p ++ (v ∷ [])) n =
      rw (size, drop-append-le (clocks_before pal rate n) p (v ∷ []) b, sum_last (drop (clocks_before pal rate n) p) v) refl in
      sampled_first pal rate (at pal rate p n) v l
      ∙ ap₂ (λ (g : List ℕ) (a : Sampler). g ++ sampled_from pal rate a l) (given_none pal rate v (at pal rate p n) u) (fed_none pal rate v (at pal rate p n) u ∙ there)
      ∙ rest n k h (omega arith) (omega arith)
      ∙ ap (λ (x : List ℕ). samples_from pal rate x k n) (append_assoc p (v ∷ []) l)

  -- a level that makes sample n whole
  gives_whole : (v : ℕ) (l p : List ℕ) → Gives pal rate l (p ++ (v ∷ [])) → (n k : ℕ) → length l ≤ k → clocks_before pal rate n ≤ length p
      → clocks_before pal rate (n + 1) ≡ length p + 1 → sampled_from pal rate (at pal rate p n) (v ∷ l) ≡ samples_from pal rate (p ++ v ∷ l) (suc k) n
  unfolding Gives at
  gives_whole v l p rest n k h b e =
      let size = length_last p v in
      let whole = length-append p (v ∷ l) in
      let r = before_rises pal rate right (n + 1) in
      let w : clocks_before pal rate (n + 1) ≤ length p + 1 = omega arith in
      let there : sampler_of (length p + 1) (n + 1) 0 ≡ at pal rate (p ++ (v ∷ [])) (n + 1) =
      rw (size, drop_of_length-le (p ++ (v ∷ [])) {i = clocks_before pal rate (n + 1)} (omega arith), sum_none) refl in
      sampled_first pal rate (at pal rate p n) v l
      ∙ ap₂ (λ (g : List ℕ) (a : Sampler). g ++ sampled_from pal rate a l) (given_whole pal rate v (at pal rate p n) w) (fed_whole pal rate v (at pal rate p n) w ∙ there)
      ∙ ap₂ (λ (x : ℕ) (y : List ℕ). x ∷ y) (sym (sample_at pal rate p l v n b e))
      (rest (n + 1) k h (omega arith) (omega arith) ∙ ap (λ (x : List ℕ). samples_from pal rate x k (n + 1)) (append_assoc p (v ∷ []) l))
      ∙ sym (samples_first pal rate (p ++ v ∷ l) k n (omega arith))

  gives_more : (v : ℕ) (l p : List ℕ) → Gives pal rate l (p ++ (v ∷ [])) → Gives pal rate (v ∷ l) p
  unfolding Gives
  gives_more v l p rest n zero h b u = absurd (omega arith)
  gives_more v l p rest n (suc k) h b u = go (leb (clocks_before pal rate (n + 1)) (length p + 1)) refl
    where
      go : (t : Bool) → leb (clocks_before pal rate (n + 1)) (length p + 1) ≡ t → sampled_from pal rate (at pal rate p n) (v ∷ l) ≡ samples_from pal rate (p ++ v ∷ l) (suc k) n
      go true e = gives_whole v l p rest n k (omega arith) b (omega (arith, leb-true (clocks_before pal rate (n + 1)) (length p + 1) e))
      go false e = gives_on v l p rest n (suc k) (omega arith) b (leb-false (clocks_before pal rate (n + 1)) (length p + 1) e)

  gives : (l p : List ℕ) → Gives pal rate l p
  unfolding Gives
  gives [] p n k h b u = sampled_none pal rate (at pal rate p n) ∙ sym (samples_none pal rate (p ++ []) k n (rw (length-append p []) (omega arith)))
  gives (v ∷ l) p n k h b u = gives_more v l p (gives l (p ++ (v ∷ []))) n k h b u

  -- THE LAW
  pub given : (levels : List ℕ) → sampled_from pal rate sampler_start levels ≡ samples_of pal rate levels
  unfolding samples_of Gives at
  given levels =
      let z = before_zero pal rate in
      let r = before_rises pal rate right 0 in
      let begun : sampler_start ≡ at pal rate [] 0 = rw (drop-nil {A = ℕ} (clocks_before pal rate 0), sum_none) refl in
      ap (λ (a : Sampler). sampled_from pal rate a levels) begun
      ∙ gives levels [] 0 (length levels) (omega arith) (omega arith) (omega arith)
