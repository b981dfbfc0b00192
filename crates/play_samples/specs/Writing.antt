-- Helper: nobody has to believe this; levels heard piece by piece, and their samples written over lent bytes.
use Rattle.std.specs.Prelude.{ℕ, zero, suc, ◌+◌, ◌*◌, ◌≤◌, ◌≡◌, Bool, true, List, [], ◌∷◌, length}
use Rattle.std.proofs.lemmas.List.Edits.{sets}
use Rattle.arith.specs.Over.{over}
use Rattle.reading.specs.Reading.{Mark}
use Rattle.run_answer.specs.Run.{flat}
use Rattle.run_levels.specs.Levels.{held_levels}
use Rattle.run_levels.specs.Ordered.{Ordered}
use Rattle.wav_sample.specs.declared.Sampler.{Sampler}
use Rattle.wav_sample.specs.Samples.{rate_right}
use Rattle.wav_sample.specs.Sampler.{sampled_from, sampler_after, in_order}
use Rattle.wav_write.specs.Bytes.{sample_bytes}

-- a sampler that so many clocks may be fed
pub record Fit (pal : Bool) (rate : ℕ) (a : Sampler) (clocks : ℕ) : Type 0 where
  pub right : rate_right rate ≡ true
  pub order : in_order pal rate a ≡ true
  pub few : clocks ≤ 1000000
  pub early : a.clock + clocks ≤ 2000000000

-- the bytes that the samples of levels take
unfoldable pub size_of : Bool → ℕ → Sampler → List ℕ → ℕ
size_of pal rate a levels = 2 * length (sampled_from pal rate a levels)

-- the samples of levels, written from a place on, and the sampler behind them
pub record Writes (pal : Bool) (rate : ℕ) (before : List ℕ) (at : ℕ) (a : Sampler) (levels after : List ℕ) (r : ℕ) (b : Sampler) : Type 0 where
  pub place : r ≡ at + size_of pal rate a levels
  pub sampler : b ≡ sampler_after pal rate a levels
  pub bytes : after ≡ sets before at (sample_bytes (sampled_from pal rate a levels))

-- n records in words
unfoldable pub marks_in : ℕ → List ℕ → List Mark
marks_in zero words = []
marks_in (suc n) [] = []
marks_in (suc n) (x ∷ []) = []
marks_in (suc n) (x ∷ y ∷ words) = record { clock = x; level = y } ∷ marks_in n words

-- the levels that they hold, from v on
unfoldable pub word_levels : ℕ → ℕ → List ℕ → ℕ → List ℕ
word_levels v n words end = held_levels 0 v (marks_in n words) end

-- words that a run of so many clocks left
pub record Recorded (words : List ℕ) (n end : ℕ) : Type 0 where
  pub marks : List Mark
  pub old : List ℕ
  pub count : n ≡ length marks
  pub stored : words ≡ over (flat marks) old
  pub size : 2 * n ≤ length words
  pub ordered : Ordered 0 marks end
