-- Between crates: the level by the sum of what the squares give; that it is the level is proved (proofs/LevelLaws).
use Rattle.std.specs.Prelude.{ℕ, ◌+◌, ◌%◌}
use Rattle.chip_mixer.specs.Mixer.{squares_level}
use Rattle.chip_mixer.specs.Parts.{rest_by}

-- the level, from the squares' sum (which is at most 30; of any other number five bits are taken), the triangle's part of N and that of the others
unfoldable pub summed_by : ℕ → ℕ → ℕ → ℕ
summed_by sum t others = squares_level (sum % 32) + rest_by (t + others % 17179869184)
