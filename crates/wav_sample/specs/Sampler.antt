-- A sampler is fed the levels one by one, and gives a sample where one is whole. From its start it gives the samples (proofs/Given).
use Rattle.std.specs.Prelude.{ℕ, ◌+◌, ◌-◌, ◌*◌, ◌/◌, Bool, List, [], ◌∷◌, ◌++◌, leb, ltb}
use Rattle.arith.specs.Pick.{pick, both}
use Rattle.wav_sample.specs.declared.Sampler.{Sampler}
use Rattle.wav_sample.specs.Samples.{clocks_before, clocks_of}

-- the clocks done, the sample under way, and its levels so far added up
abbrev pub sampler_of : ℕ → ℕ → ℕ → Sampler
sampler_of clock sample sum = record { clock = clock; sample = sample; sum = sum }

abbrev pub sampler_start : Sampler
sampler_start = sampler_of 0 0 0

-- a level more makes the sample under way whole
unfoldable pub whole_next : Bool → ℕ → Sampler → Bool
whole_next pal rate a = leb (clocks_before pal rate (a.sample + 1)) (a.clock + 1)

-- what it gives then, and the sampler behind it
unfoldable pub given_by : Bool → ℕ → ℕ → Sampler → List ℕ
given_by pal rate v a = pick (whole_next pal rate a) ((a.sum + v) / clocks_of pal rate a.sample ∷ []) []

unfoldable pub fed : Bool → ℕ → ℕ → Sampler → Sampler
fed pal rate v a = pick (whole_next pal rate a) (sampler_of (a.clock + 1) (a.sample + 1) 0) (sampler_of (a.clock + 1) a.sample (a.sum + v))

-- WHAT IT GIVES for levels one after the other, and the sampler behind them
unfoldable pub sampled_from : Bool → ℕ → Sampler → List ℕ → List ℕ
sampled_from pal rate a [] = []
sampled_from pal rate a (v ∷ l) = given_by pal rate v a ++ sampled_from pal rate (fed pal rate v a) l

unfoldable pub sampler_after : Bool → ℕ → Sampler → List ℕ → Sampler
sampler_after pal rate a [] = a
sampler_after pal rate a (v ∷ l) = sampler_after pal rate (fed pal rate v a) l

-- a sampler as it is between two clocks of a log: within the sample under way, and its sum no more than so many levels have
unfoldable pub in_order : Bool → ℕ → Sampler → Bool
in_order pal rate a =
    both (leb a.clock 2000000000)
    (both (leb (clocks_before pal rate a.sample) a.clock)
    (both (ltb a.clock (clocks_before pal rate (a.sample + 1))) (leb a.sum (65535 * (a.clock - clocks_before pal rate a.sample)))))
