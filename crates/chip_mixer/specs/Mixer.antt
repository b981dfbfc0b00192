-- Document 01, "Mixer and records": the level, out of 32,768.
use Rattle.std.specs.Prelude.{ℕ, ◌+◌, ◌*◌, ◌/◌, ◌%◌}

-- "With s the two squares' sum: A = floor(32768 x 2397s / (203200 + 2500s))."
unfoldable pub squares_level : ℕ → ℕ
squares_level s = 32768 * 2397 * s / (203200 + 2500 * s)

-- "L = 8227 x 12241 x 22638"
abbrev pub unit : ℕ
unit = 8227 * 12241 * 22638

-- "N = L(t/8227 + n/12241 + d/22638), a whole number"
unfoldable pub weight : ℕ → ℕ → ℕ → ℕ
weight t n d = t * (unit / 8227) + n * (unit / 12241) + d * (unit / 22638)

-- "B = floor(32768 x 15979N / (100L + 10000N))"
unfoldable pub rest_level : ℕ → ℕ → ℕ → ℕ
rest_level t n d = 32768 * 15979 * weight t n d / (100 * unit + 10000 * weight t n d)

-- "Level = A + B" (squares, triangle and noise give 0..15 and the DMC 0..127; any other number is taken by its remainder)
unfoldable pub mixed : ℕ → ℕ → ℕ → ℕ → ℕ → ℕ
mixed a b t n d = squares_level (a % 16 + b % 16) + rest_level (t % 16) (n % 16) (d % 128)
