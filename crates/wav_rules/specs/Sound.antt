-- A log as sound: the level after each of its clocks, and the file of their samples.
use Rattle.std.specs.Prelude.{ℕ, ◌+◌, ◌*◌, List, [], ◌∷◌, ◌++◌, eqb, length}
use Rattle.arith.specs.Iterate.{iterate}
use Rattle.arith.specs.Pick.{pick}
use Rattle.text.specs.Ascii.{bytes}
use Rattle.c_bytes.specs.Numbers.{wide_bytes}
use Rattle.log_line.specs.declared.Act.{Act}
use Rattle.log_line.specs.declared.Act.TheVariants.{Wait, Access}
use Rattle.recording.specs.Whole.{machine_of}
use Rattle.log_rules.specs.Tree.{acts}
use Rattle.recording.specs.Whole.{tree_of}
use Rattle.chip.specs.Clock.{chip_clock}
use Rattle.chip.specs.Range.{power_on}
use Rattle.chip.specs.declared.State.{State}
use Rattle.chip_access.specs.Access.{access_state}
use Rattle.run_levels.specs.Levels.{clocks_levels}
use Rattle.wav_sample.specs.Samples.{rate_right, samples_of}
use Rattle.wav_write.specs.Bytes.{sample_bytes}
use Rattle.play_begin.specs.Whole.{play_number, play_place}

-- the level after each clock of the acts, from the state s on: "An access at a stamp changes the level of the clocks behind it only."
unfoldable pub levels_from : List ℕ → List Act → State → List ℕ
levels_from memory [] s = []
levels_from memory (Wait n ∷ l) s = clocks_levels memory n s ++ levels_from memory l (iterate (chip_clock memory) n s)
levels_from memory (Access x ∷ l) s = levels_from memory l (access_state x s)

-- THE SAMPLES OF A LOG, from power-on of its machine
unfoldable pub log_samples : List ℕ → List ℕ → ℕ → List ℕ
log_samples log memory rate = samples_of (machine_of log) rate (levels_from memory (acts (tree_of log)) (power_on (machine_of log)))

-- "RIFF, PCM, 16 bits, one channel": 44 bytes before the samples, which are two bytes each. A RIFF of so many bytes behind this number, a form of 16 bytes
-- (PCM is 1, one channel, so many samples and so many bytes a second, two bytes at a time, 16 bits), and the data with its size
unfoldable pub wav_head : ℕ → ℕ → List ℕ
wav_head rate count =
    bytes "RIFF"
    ++ (wide_bytes 4 (36 + 2 * count)
    ++ (bytes "WAVEfmt "
    ++ (wide_bytes 4 16
    ++ (wide_bytes 2 1
    ++ (wide_bytes 2 1
    ++ (wide_bytes 4 rate ++ (wide_bytes 4 (2 * rate) ++ (wide_bytes 2 2 ++ (wide_bytes 2 16 ++ (bytes "data" ++ wide_bytes 4 (2 * count)))))))))))

-- THE FILE of a log that passes
unfoldable pub wav_bytes : List ℕ → List ℕ → ℕ → List ℕ
wav_bytes log memory rate = let l = log_samples log memory rate in wav_head rate (length l) ++ sample_bytes l

-- "Refusals as the player's, then the rate: its own number, 33"
unfoldable pub wav_number : List ℕ → List ℕ → ℕ → ℕ
wav_number log memory rate = pick (eqb (play_number log memory) 0) (pick (rate_right rate) 0 33) (play_number log memory)

unfoldable pub wav_place : List ℕ → List ℕ → ℕ
wav_place log memory = pick (eqb (play_number log memory) 0) 0 (play_place log memory)
