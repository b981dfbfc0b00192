-- The level by the parts of N is the level. Assumes nothing.
use Prim.Native.Nat.{ℕ, ◌+◌, ◌*◌, ◌/◌, ◌%◌, ◌≤◌, ◌<◌}
use mathlib.Core.Path.{◌≡◌, ap}
use native.Mathlib.Nat.{div-lt_iff_lt-mul}
use native.Mathlib.Omega.{arith}
use Rattle.chip_mixer.specs.Mixer.{squares_level, weight, rest_level, mixed}
use Rattle.chip_mixer.specs.Parts.{triangle_weight, others_weight, rest_by, mixed_by}

pub triangle_most : (t : ℕ) → triangle_weight t ≤ 4156676370
unfolding triangle_weight
triangle_most t = omega arith

pub others_most : (n d : ℕ) → others_weight n d ≤ 15583394179
unfolding others_weight
others_most n d = omega arith

pub rest_by_most : (w : ℕ) → rest_by w ≤ 52359
unfolding rest_by
rest_by_most w =
    let h : 523599872 * w / (227979843306600 + 10000 * w) < 52360 =
    (div-lt_iff_lt-mul {k = 227979843306600 + 10000 * w} {x = 523599872 * w} {y = 52360} (omega arith)).1 (omega arith)
    in omega arith

-- N is the sum of its parts
whole : (t n d : ℕ) → weight (t % 16) (n % 16) (d % 128) ≡ triangle_weight t + others_weight n d % 17179869184
unfolding weight triangle_weight others_weight
whole t n d = omega arith

-- THE LEVEL BY PARTS
pub parts : (a b t n d : ℕ) → mixed a b t n d ≡ mixed_by a b (triangle_weight t) (others_weight n d)
unfolding mixed mixed_by rest_level rest_by
parts a b t n d = ap (λ (w : ℕ). squares_level (a % 16 + b % 16) + 32768 * 15979 * w / (227979843306600 + 10000 * w)) (whole t n d)
