-- Between crates: the level by the parts of N, as a stretch makes it; that it is the level is proved (proofs/PartsLaws).
use Rattle.std.specs.Prelude.{ℕ, ◌+◌, ◌*◌, ◌/◌, ◌%◌}
use Rattle.chip_mixer.specs.Mixer.{squares_level, unit}

-- the triangle's part of N
unfoldable pub triangle_weight : ℕ → ℕ
triangle_weight t = t % 16 * (unit / 8227)

-- the part of noise and DMC
unfoldable pub others_weight : ℕ → ℕ → ℕ
others_weight n d = n % 16 * (unit / 12241) + d % 128 * (unit / 22638)

-- B of N
unfoldable pub rest_by : ℕ → ℕ
rest_by w = 32768 * 15979 * w / (100 * unit + 10000 * w)

-- the level, from the triangle's part and that of the others (which is less than 2 ^ 34; any other number is taken by its remainder)
unfoldable pub mixed_by : ℕ → ℕ → ℕ → ℕ → ℕ
mixed_by a b t others = squares_level (a % 16 + b % 16) + rest_by (t + others % 17179869184)
