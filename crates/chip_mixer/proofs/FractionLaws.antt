-- A whole number of 24 bits over 32,768 is exact in binary32, and times 32,768 it is the number again.
-- Assumes nothing.
use mathlib.Core.Path.{◌≡◌, refl, sym, ap, ◌∙◌}
use mathlib.Core.Bool.{true, false, true≢false}
use Prim.Native.Nat.{ℕ, ◌*◌, ◌<◌, ◌^◌}
use native.Mathlib.Nat.{mul-one, mul_assoc, mul_comm, lt_of_lt_of_le, mul-lt-mul_of_pos_right}
use native.Mathlib.Omega.{arith}
use lib.Dec.{lit≤}
use lib.Pow.{pow_pos}
use lib.IntN.{pos}
use lib.Ieee.{Float, nan, inf, fin, binary32, up, down, div, mul, of_int, of_bits, round}
use Rattle.chip_mixer.specs.Fraction.{scale}
use lib.Ieee.Exact.{HasValue, round_exact}
use lib.Ieee.Back.{round_whole}
use lib.Ieee.Fits.{down_pos}
use lib.Ieee.Scale.{round_same}

pub scale_is : of_bits binary32 1191182336 ≡ scale
unfolding of_bits
scale_is = refl

quotient : (x : Float) (a : ℕ) → HasValue x false a 1 → div binary32 x scale ≡ round binary32 false a 32768
unfolding div
quotient nan a v = absurd v
quotient (inf s) a v = absurd v
quotient (fin true m e) a v = absurd (true≢false v.0)
quotient (fin false m e) a v =
    round_same binary32 false (m * up e * 1) (32768 * down e) a 32768 (omega (arith, down_pos e)) (omega arith)
    (ap (λ (z : ℕ). z * 32768) v.1 ∙ mul_assoc a (down e) 32768 ∙ ap (λ (z : ℕ). a * z) (mul_comm (down e) 32768))

product : (x : Float) (a : ℕ) → HasValue x false a 32768 → mul binary32 x scale ≡ round binary32 false a 1
unfolding mul
product nan a v = absurd v
product (inf s) a v = absurd v
product (fin true m e) a v = absurd (true≢false v.0)
product (fin false m e) a v =
    round_same binary32 false (m * up e * 32768) (down e * 1) a 1 (omega (arith, down_pos e)) (omega arith)
    (mul-one (m * up e * 32768) ∙ v.1 ∙ ap (λ (z : ℕ). a * z) (sym (mul-one (down e))))

module _ (n : ℕ) (h : n < 2 ^ 24) where
  fine : n * 2 ^ 134 < 2 ^ 277
  fine = lt_of_lt_of_le (mul-lt-mul_of_pos_right h (pow_pos 134)) (lit≤ tt)

  pub over : HasValue (div binary32 (of_int binary32 (pos n)) scale) false n 32768
  unfolding of_int
  over =
      rw (quotient (round binary32 false n 1) n (round_whole binary32 false n (omega arith)))
      (round_exact binary32 false n 32768 n 134 (omega arith) h fine (sym (mul_assoc n (2 ^ 134) 32768)))

  pub again : mul binary32 (div binary32 (of_int binary32 (pos n)) scale) scale ≡ of_int binary32 (pos n)
  unfolding of_int
  again = product (div binary32 (of_int binary32 (pos n)) scale) n over
