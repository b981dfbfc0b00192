-- Laws of bits. Assumes nothing.
use Prim.Native.Nat.{ℕ, zero, suc, ◌+◌, ◌%◌, ◌<◌}
use mathlib.Core.Path.{◌≡◌, refl}
use native.Mathlib.Omega.{arith}
use lib.Bits.{bit_xor}

-- XOR of two bits is their sum without the carry
pub xor_bits : (x y : ℕ) → x < 2 → y < 2 → bit_xor x y ≡ (x + y) % 2
xor_bits zero y hx hy = omega arith
xor_bits (suc zero) zero hx hy = refl
xor_bits (suc zero) (suc zero) hx hy = refl
xor_bits (suc zero) (suc (suc y)) hx hy = absurd (omega arith)
xor_bits (suc (suc x)) y hx hy = absurd (omega arith)
