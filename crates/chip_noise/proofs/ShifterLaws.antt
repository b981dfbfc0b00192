-- The shift register's step: in sums, by masks, and what it can give. Assumes nothing.
use Prim.Native.Nat.{ℕ, zero, suc, ◌+◌, ◌*◌, ◌/◌, ◌%◌, ◌^◌, ◌≤◌, ◌<◌}
use mathlib.Core.Path.{◌≡◌, ap, ◌∙◌}
use mathlib.Core.Bool.{Bool, true, false}
use native.Mathlib.Nat.{add_comm}
use native.Mathlib.Omega.{arith}
use lib.Bits.{bit_and, bit_or, bit_xor, and_mask, or_shifted_r}
use Rattle.arith.specs.Bit.{bit_of}
use Rattle.arith.specs.Iterate.{iterate}
use Rattle.arith.proofs.BitLaws.{xor_bits}
use Rattle.arith.proofs.IterateLaws.{iterate_keeps}
use Rattle.chip_noise.specs.Shifter.{tap_of, shifted_of}

-- XOR of two bits of a register is their sum without the carry
xor_sum : (r k : ℕ) → bit_xor (bit_of r 0) (bit_of r k) ≡ (bit_of r 0 + bit_of r k) % 2
xor_sum r k = xor_bits (bit_of r 0) (bit_of r k) (omega arith) (omega arith)

-- THE STEP IN SUMS
pub shifted_sum : (mode : Bool) (r : ℕ)
    → shifted_of mode r ≡ r / 2 % 16384 + (bit_of r 0 + bit_of r (tap_of mode)) % 2 * 16384
unfolding shifted_of
shifted_sum mode r = ap (λ (b : ℕ). r / 2 % 16384 + b * 16384) (xor_sum r (tap_of mode))

-- THE STEP BY MASKS, of any register
pub by_masks : (r k : ℕ)
    → bit_or (bit_and (r / 2) 16383) (bit_xor (bit_and r 1) (bit_and (r / 2 ^ k) 1) * 16384 % 65536)
    ≡ r / 2 % 2 ^ 14 + bit_xor (bit_of r 0) (bit_of r k) * 2 ^ 14
by_masks r k =
    let fed = (bit_of r 0 + bit_of r k) % 2 in
    let low : bit_and r 1 ≡ bit_of r 0 = and_mask r 1 ∙ omega arith in
    let small : fed * 16384 % 65536 ≡ fed * 16384 = omega arith in
    rw (low, and_mask (r / 2 ^ k) 1, and_mask (r / 2) 14, xor_sum r k, small)
    (or_shifted_r fed 14 (r / 2 % 16384) (omega arith) ∙ add_comm (fed * 16384) (r / 2 % 16384))

pub tap_low : (mode : Bool) → tap_of mode < 16
tap_low false = omega arith
tap_low true = omega arith

-- the register stays below 2 ^ 15, and above 0
pub shifted_most : (mode : Bool) (r : ℕ) → shifted_of mode r ≤ 32767
shifted_most mode r = rw (shifted_sum mode r) (omega arith)

pub shifted_least : (mode : Bool) (r : ℕ) → 1 ≤ r → r ≤ 32767 → 1 ≤ shifted_of mode r
shifted_least mode r h l = rw (shifted_sum mode r) (go mode r h l)
  where
    go : (mode : Bool) (r : ℕ) → 1 ≤ r → r ≤ 32767 → 1 ≤ r / 2 % 16384 + (bit_of r 0 + bit_of r (tap_of mode)) % 2 * 16384
    go mode zero h l = absurd (let no : ⊥ = omega arith in no)
    go false (suc zero) h l = omega arith
    go true (suc zero) h l = omega arith
    go mode (suc (suc r)) h l = let w : suc (suc r) / 2 % 16384 ≡ suc (suc r) / 2 = omega arith in omega arith

-- k outputs on as well
pub shifts_most : (mode : Bool) (k r : ℕ) → r ≤ 32767 → iterate (shifted_of mode) k r ≤ 32767
shifts_most mode k r h = iterate_keeps (λ (x : ℕ). x ≤ 32767) (shifted_of mode) (λ x q. shifted_most mode x) k r h
