-- The tables' entries are A and B: one computed test over each table, and one law. Assumes nothing.
use Prim.Native.Nat.{ℕ, ◌+◌, ◌*◌, ◌/◌, ◌%◌, ◌≤◌}
use mathlib.Core.Path.{◌≡◌, refl, ◌∙◌}
use mathlib.Core.Bool.{Bool}
use native.Mathlib.Omega.{arith}
use lib.Dec.{T, eqb, eqb→eq}
use lib.ListN.{get_or}
use Rattle.arith.specs.Table.{every}
use Rattle.arith.proofs.TableLaws.{at}
use Rattle.chip_mixer.specs.Mixer.{squares_level}
use Rattle.chip_mixer.specs.Parts.{triangle_weight, others_weight, rest_by}
use Rattle.chip_triangle.specs.Triangle.{triangle_at}
use Rattle.leap_calm.specs.Table.{squares_table, rest_table}

-- an entry is A of its place
abbrev right_sum : ℕ → ℕ → Bool
right_sum s a = eqb a (squares_level s)

test_sums : T (every right_sum 0 squares_table)
unfolding squares_level
test_sums = tt

-- EVERY ENTRY IS A
pub squares_is : (s : ℕ) → get_or squares_table (s % 32) 0 ≡ squares_level (s % 32)
squares_is s = eqb→eq (get_or squares_table (s % 32) 0) (squares_level (s % 32)) (at right_sum squares_table test_sums (s % 32) (omega arith))

-- B of an output of the noise and a position of the triangle
abbrev share : ℕ → ℕ → ℕ
share n p = rest_by (triangle_weight (triangle_at p) + others_weight n 0 % 17179869184)

-- an entry is B of its place
abbrev right : ℕ → ℕ → Bool
right k b = eqb b (share (k / 32) (k % 32))

test : T (every right 0 rest_table)
unfolding rest_by triangle_weight triangle_at others_weight
test = tt

entry_is : (k : ℕ) → k ≤ 511 → get_or rest_table k 0 ≡ share (k / 32) (k % 32)
entry_is k h = eqb→eq (get_or rest_table k 0) (share (k / 32) (k % 32)) (at right rest_table test k (omega arith))

same_position : (p : ℕ) → triangle_at (p % 32) ≡ triangle_at p
unfolding triangle_at
same_position p = let z : p % 32 % 32 ≡ p % 32 = omega arith in rw z refl

same_noise : (n : ℕ) → others_weight (n % 16) 0 ≡ others_weight n 0
unfolding others_weight
same_noise n = omega arith

-- EVERY ENTRY IS B
pub share_is : (n p : ℕ) → get_or rest_table (n % 16 * 32 + p % 32) 0 ≡ rest_by (triangle_weight (triangle_at p) + others_weight n 0 % 17179869184)
share_is n p =
    let row : (n % 16 * 32 + p % 32) / 32 ≡ n % 16 = omega arith in
    let place : (n % 16 * 32 + p % 32) % 32 ≡ p % 32 = omega arith in
    entry_is (n % 16 * 32 + p % 32) (omega arith)
    ∙ rw (row, place, same_position p, same_noise n) refl
