-- The level is at most 32,767, whatever the channels give. Assumes nothing.
use Prim.Native.Nat.{ℕ, ◌+◌, ◌*◌, ◌/◌, ◌%◌, ◌≤◌, ◌<◌}
use native.Mathlib.Nat.{div-lt_iff_lt-mul}
use native.Mathlib.Omega.{arith}
use Rattle.chip_mixer.specs.Mixer.{squares_level, weight, rest_level, mixed}

pub squares_most : (s : ℕ) → s ≤ 30 → squares_level s ≤ 8469
unfolding squares_level
squares_most s b =
    let h : 78544896 * s / (203200 + 2500 * s) < 8470 =
    (div-lt_iff_lt-mul {k = 203200 + 2500 * s} {x = 78544896 * s} {y = 8470} (omega arith)).1 (omega arith)
    in omega arith

pub weight_most : (t n d : ℕ) → t ≤ 15 → n ≤ 15 → d ≤ 127 → weight t n d ≤ 19740070549
unfolding weight
weight_most t n d p q r = omega arith

pub rest_most : (t n d : ℕ) → t ≤ 15 → n ≤ 15 → d ≤ 127 → rest_level t n d ≤ 24298
unfolding rest_level
rest_most t n d p q r =
    let w : weight t n d ≤ 19740070549 = weight_most t n d p q r in
    let h : 523599872 * weight t n d / (227979843306600 + 10000 * weight t n d) < 24299 =
    (div-lt_iff_lt-mul {k = 227979843306600 + 10000 * weight t n d} {x = 523599872 * weight t n d} {y = 24299} (omega arith)).1 (omega arith)
    in omega arith

pub mixed_most : (a b t n d : ℕ) → mixed a b t n d ≤ 32767
unfolding mixed
mixed_most a b t n d =
    omega (arith, squares_most (a % 16 + b % 16) (omega arith), rest_most (t % 16) (n % 16) (d % 128) (omega arith) (omega arith) (omega arith))
