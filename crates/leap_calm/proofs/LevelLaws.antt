-- The level by the squares' sum: what the code adds up, and that it is the level. Assumes nothing.
use Prim.Native.Nat.{ℕ, ◌+◌, ◌*◌, ◌/◌, ◌%◌, ◌≤◌, ◌<◌}
use mathlib.Core.Path.{◌≡◌, ap, ◌∙◌}
use native.Mathlib.Nat.{zero-add, div-lt_iff_lt-mul}
use native.Mathlib.Omega.{arith}
use lib.ListN.{get_or}
use Rattle.chip_mixer.specs.Mixer.{squares_level, mixed}
use Rattle.chip_mixer.specs.Parts.{triangle_weight, others_weight, rest_by, mixed_by}
use Rattle.chip_mixer.proofs.PartsLaws.{rest_by_most, parts}
use Rattle.chip_triangle.specs.Triangle.{triangle_at}
use Rattle.leap_calm.specs.Level.{summed_by}
use Rattle.leap_calm.specs.Table.{rest_table}
use Rattle.leap_calm.proofs.TableLaws.{share_is}

squares_most : (s : ℕ) → s ≤ 31 → squares_level s ≤ 8674
unfolding squares_level
squares_most s b =
    let h : 78544896 * s / (203200 + 2500 * s) < 8675 =
    (div-lt_iff_lt-mul {k = 203200 + 2500 * s} {x = 78544896 * s} {y = 8675} (omega arith)).1 (omega arith)
    in omega arith

-- it fits into 16 bits, whatever it is made from
pub summed_most : (sum t others : ℕ) → summed_by sum t others ≤ 61033
unfolding summed_by
summed_most sum t others = omega (arith, squares_most (sum % 32) (omega arith), rest_by_most (t + others % 17179869184))

-- A and B by the tables
pub summed_calm : (sum p n : ℕ)
    → squares_level (sum % 32) + get_or rest_table (n % 16 * 32 + p % 32) 0 ≡ summed_by sum (triangle_weight (triangle_at p)) (others_weight n 0)
unfolding summed_by
summed_calm sum p n = ap (λ (b : ℕ). squares_level (sum % 32) + b) (share_is n p)

-- B is the level with no squares
pub summed_alone : (sum t others : ℕ) → squares_level (sum % 32) + mixed_by 0 0 t others ≡ summed_by sum t others
unfolding summed_by mixed_by squares_level
summed_alone sum t others = ap (λ (b : ℕ). squares_level (sum % 32) + b) (zero-add (rest_by (t + others % 17179869184)))

pub summed_all : (sum t n d : ℕ) → squares_level (sum % 32) + mixed 0 0 t n d ≡ summed_by sum (triangle_weight t) (others_weight n d)
summed_all sum t n d =
    ap (λ (b : ℕ). squares_level (sum % 32) + b) (parts 0 0 t n d) ∙ summed_alone sum (triangle_weight t) (others_weight n d)

-- THE LEVEL BY THE SUM
pub summed_is : (a b t n d : ℕ) → a ≤ 15 → b ≤ 15 → mixed a b t n d ≡ summed_by (a + b) (triangle_weight t) (others_weight n d)
unfolding summed_by mixed_by
summed_is a b t n d h q =
    let e : a % 16 + b % 16 ≡ (a + b) % 32 = omega arith in
    parts a b t n d ∙ ap (λ (s : ℕ). squares_level s + rest_by (triangle_weight t + others_weight n d % 17179869184)) e
