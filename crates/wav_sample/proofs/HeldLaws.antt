-- A level held for some clocks of one sample. Assumes nothing.
use Prim.Native.Nat.{ℕ, zero, suc, ◌+◌, ◌-◌, ◌*◌, ◌/◌, ◌≤◌, ◌<◌}
use mathlib.Core.Path.{◌≡◌, sym, ap, ap₂, ◌∙◌}
use mathlib.Core.Bool.{Bool}
use mathlib.Core.List.{List, [], ◌∷◌, ◌++◌}
use native.Mathlib.Nat.{add-zero, mul-zero, mul-suc}
use native.Mathlib.Numerals.{add-one}
use native.Mathlib.Omega.{arith}
use lib.ListN.{replicate, replicate-append-replicate}
use Rattle.wav_sample.specs.declared.Sampler.{Sampler}
use Rattle.wav_sample.specs.Samples.{clocks_before, clocks_of}
use Rattle.wav_sample.specs.Sampler.{sampler_of, sampled_from, sampler_after}
use Rattle.wav_sample.proofs.FeedLaws.{given_none, fed_none, given_whole, fed_whole, sampled_none, after_none, sampled_first, after_first, sampled_join, after_join}

-- level v held for k clocks: from sampler a it gives l, and the sampler is b then
pub record Holds (pal : Bool) (rate v k : ℕ) (a : Sampler) (l : List ℕ) (b : Sampler) : Type 0 where
  pub gives : sampled_from pal rate a (replicate k v) ≡ l
  pub leaves : sampler_after pal rate a (replicate k v) ≡ b

-- a level once more
once : (v m k : ℕ) → m + v * k + v ≡ m + v * (k + 1)
once v m k = rw (add-one k) (omega (arith, mul-suc v k))

module _ (pal : Bool) (rate v : ℕ) where
  holds_none : (a : Sampler) → Holds pal rate v 0 a [] a
  holds_none a = record { gives = sampled_none pal rate a; leaves = after_none pal rate a }

  -- the same by other names
  holds_like : (k j : ℕ) (a b c : Sampler) (l m : List ℕ) → Holds pal rate v k a l b → k ≡ j → l ≡ m → b ≡ c → Holds pal rate v j a m c
  holds_like k j a b c l m h e f g =
      record {
        gives = ap (λ (x : ℕ). sampled_from pal rate a (replicate x v)) (sym e) ∙ h.gives ∙ f;
        leaves = ap (λ (x : ℕ). sampler_after pal rate a (replicate x v)) (sym e) ∙ h.leaves ∙ g;
      }

  -- j clocks, then k more
  holds_join : (j k : ℕ) (a b c : Sampler) (l m : List ℕ) → Holds pal rate v j a l b → Holds pal rate v k b m c → Holds pal rate v (j + k) a (l ++ m) c
  holds_join j k a b c l m first then =
      let joined = replicate-append-replicate j k v in
      record {
        gives =
            ap (sampled_from pal rate a) (sym joined)
            ∙ sampled_join pal rate (replicate j v) (replicate k v) a
            ∙ ap₂ (λ (x : List ℕ) (y : Sampler). x ++ sampled_from pal rate y (replicate k v)) first.gives first.leaves
            ∙ ap (λ (x : List ℕ). l ++ x) then.gives;
        leaves =
            ap (sampler_after pal rate a) (sym joined)
            ∙ after_join pal rate (replicate j v) (replicate k v) a
            ∙ ap (λ (y : Sampler). sampler_after pal rate y (replicate k v)) first.leaves
            ∙ then.leaves;
      }

  -- one clock: within the sample under way,
  one_within : (c s m : ℕ) → c + 1 < clocks_before pal rate (s + 1) → Holds pal rate v 1 (sampler_of c s m) [] (sampler_of (c + 1) s (m + v))
  one_within c s m h =
      let a : Sampler = sampler_of c s m in
      record {
        gives = sampled_first pal rate a v [] ∙ ap₂ (λ (x : List ℕ) (y : List ℕ). x ++ y) (given_none pal rate v a h) (sampled_none pal rate _);
        leaves = after_first pal rate a v [] ∙ after_none pal rate _ ∙ fed_none pal rate v a h;
      }

  -- or its last
  one_whole : (c s m : ℕ) → clocks_before pal rate (s + 1) ≡ c + 1 → Holds pal rate v 1 (sampler_of c s m) ((m + v) / clocks_of pal rate s ∷ []) (sampler_of (c + 1) (s + 1) 0)
  one_whole c s m e =
      let a : Sampler = sampler_of c s m in
      let h : clocks_before pal rate (s + 1) ≤ c + 1 = omega arith in
      record {
        gives = sampled_first pal rate a v [] ∙ ap₂ (λ (x : List ℕ) (y : List ℕ). x ++ y) (given_whole pal rate v a h) (sampled_none pal rate _);
        leaves = after_first pal rate a v [] ∙ after_none pal rate _ ∙ fed_whole pal rate v a h;
      }

  -- SOME CLOCKS WITHIN THE SAMPLE UNDER WAY
  pub holds_within : (k c s m : ℕ) → c + k < clocks_before pal rate (s + 1) → Holds pal rate v k (sampler_of c s m) [] (sampler_of (c + k) s (m + v * k))
  holds_within zero c s m h = rw (add-zero c, mul-zero v, add-zero m) (holds_none (sampler_of c s m))
  holds_within (suc k) c s m h =
      let n : suc k ≡ 1 + k = omega arith in
      let e1 : c + suc k ≡ c + 1 + k = omega arith in
      let e2 : m + v * suc k ≡ m + v + v * k = omega (arith, mul-suc v k) in
      rw (e1, e2, n) (holds_join 1 k (sampler_of c s m) (sampler_of (c + 1) s (m + v)) _ [] [] (one_within c s m (omega arith)) (holds_within k (c + 1) s (m + v) (omega arith)))

  -- ON TO ITS END
  pub holds_end : (c s m : ℕ) → c < clocks_before pal rate (s + 1)
      → Holds pal rate v (clocks_before pal rate (s + 1) - c) (sampler_of c s m) ((m + v * (clocks_before pal rate (s + 1) - c)) / clocks_of pal rate s ∷ []) (sampler_of (clocks_before pal rate (s + 1)) (s + 1) 0)
  holds_end c s m h =
      let k : ℕ = clocks_before pal rate (s + 1) - c - 1 in
      let n : k + 1 ≡ clocks_before pal rate (s + 1) - c = omega arith in
      let at : c + k + 1 ≡ clocks_before pal rate (s + 1) = omega arith in
      let e : m + v * k + v ≡ m + v * (clocks_before pal rate (s + 1) - c) = once v m k ∙ ap (λ (x : ℕ). m + v * x) n in
      holds_like (k + 1) _ _ _ _ _ _
      (holds_join k 1 (sampler_of c s m) (sampler_of (c + k) s (m + v * k)) _ [] _ (holds_within k c s m (omega arith)) (one_whole (c + k) s (m + v * k) (omega arith)))
      n (ap (λ (x : ℕ). x / clocks_of pal rate s ∷ []) e) (ap (λ (x : ℕ). sampler_of x (s + 1) 0) at)
