-- What a file begins with is what is right, step by step of the refusals. Assumes nothing.
use Prim.Native.Nat.{ℕ, ◌+◌, ◌*◌, ◌≤◌}
use mathlib.Core.Path.{◌≡◌, sym, ap}
use mathlib.Core.Bool.{true, false}
use mathlib.Core.List.{List}
use borrow.Author.Tests.{eq-eqb, ne_eqb}
use lib.ListN.{length}
use Rattle.recording.specs.Whole.{check_of}
use Rattle.recording.proofs.Passing.{clear, passes}
use Rattle.play_begin.specs.Whole.{play_number, play_place}
use Rattle.wav_sample.specs.Samples.{rate_right, samples_in}
use Rattle.wav_rules.specs.Sound.{log_samples, wav_number, wav_place}
use Rattle.wav_rules.specs.Turns.{wav_start}
use Rattle.wav_rules.proofs.SizeLaws.{samples_count, file_length}
use Rattle.play_wav.specs.declared.Begun.{Begun}
use Rattle.play_wav.specs.Pieces.{begun_of}

abbrev pub refused_with : ℕ → ℕ → List ℕ → Begun
refused_with number place log = record { number = number; place = place; size = 0; wav = wav_start log 0 0 }

abbrev pub opened_with : ℕ → ℕ → List ℕ → Begun
opened_with rate count log = record { number = 0; place = 0; size = 44 + 2 * count; wav = wav_start log rate count }

module _ (log memory : List ℕ) (rate : ℕ) where
  pub begun_memory : (length memory ≡ 32768 → ⊥) → refused_with 1 0 log ≡ begun_of log memory rate
  unfolding begun_of wav_number wav_place play_number play_place
  begun_memory h = rw (ne_eqb (length memory) 32768 h)

  module _ (long : length memory ≡ 32768) where
    pub begun_log : ((check_of log).number ≡ 0 → ⊥) → refused_with (check_of log).number (check_of log).place log ≡ begun_of log memory rate
    unfolding begun_of wav_number wav_place play_number play_place
    begun_log h = rw (eq-eqb (length memory) 32768 long, ne_eqb (check_of log).number 0 h, ne_eqb (check_of log).number 0 h)

    module _ (passed : (check_of log).number ≡ 0) where
      pub begun_rate : rate_right rate ≡ false → refused_with 33 0 log ≡ begun_of log memory rate
      unfolding begun_of wav_number wav_place play_number play_place
      begun_rate e = rw (eq-eqb (length memory) 32768 long, eq-eqb (check_of log).number 0 passed, e)

      count_is : rate_right rate ≡ true → samples_in (check_of log).pal rate (check_of log).clocks ≡ length (log_samples log memory rate)
      count_is right = rw (passes log passed) (sym (samples_count log memory rate right))

      pub begun_file : rate_right rate ≡ true → opened_with rate (samples_in (check_of log).pal rate (check_of log).clocks) log ≡ begun_of log memory rate
      unfolding begun_of wav_number play_number
      begun_file right =
          rw (eq-eqb (length memory) 32768 long, eq-eqb (check_of log).number 0 passed, right, file_length log memory rate)
          (ap (λ (n : ℕ). opened_with rate n log) (count_is right))

-- the clocks of a log that passes fit in 32 bits
pub clocks_fit : (log : List ℕ) → (check_of log).number ≡ 0 → (check_of log).clocks ≤ 2000000000
clocks_fit log passed = rw (passes log passed) (clear log passed).in_clocks
