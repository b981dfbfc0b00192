-- Up to eight outputs of the noise register at once: the bits that they feed back all stand in it. Assumes nothing.
use Prim.Native.Nat.{ℕ, zero, suc, ◌+◌, ◌-◌, ◌*◌, ◌/◌, ◌%◌, ◌^◌, ◌≤◌, ◌<◌}
use mathlib.Core.Path.{◌≡◌, refl, sym, ap, ◌∙◌}
use mathlib.Core.Bool.{Bool, true, false}
use native.Mathlib.Nat.{mul_comm, add_comm, mul-add, mul_assoc, mul_left_comm, mul_right_comm, mul-zero, pow-succ', mod-lt, mod-one, mod-eq_of_lt, div-one, div-add-mod', div-div-eq-div-mul, div-lt_iff_lt-mul, mul-add-mod_self_right, mul-lt-mul_of_pos_right, pow-le-pow_right}
use native.Mathlib.Omega.{arith}
use lib.Pow.{pow_pos, pow-add}
use lib.Bits.{bit_and, bit_or, bit_xor, differ, xor_step, and_mask, or_shifted_r}
use Rattle.arith.specs.Bit.{bit_of}
use Rattle.arith.specs.Iterate.{iterate}
use Rattle.chip_noise.specs.Shifter.{tap_of, shifted_of}
use Rattle.chip_noise.proofs.ShifterLaws.{shifted_sum, shifted_most}
use Rattle.leap_noise.proofs.LinearLaws.{differ_bits}

-- WHAT THE OUTPUTS FEED BACK

-- the bit that an output feeds back, of a register whose low bits are x
fed : Bool → ℕ → ℕ
fed mode x = (x % 2 + x / 2 ^ tap_of mode % 2) % 2

-- all that the outputs feed back, lowest bit first
all : Bool → ℕ → ℕ
all mode x = bit_xor x (x / 2 ^ tap_of mode)

all_step : (mode : Bool) (x : ℕ) → all mode x ≡ all mode (x / 2) * 2 + fed mode x
unfolding all fed
all_step mode x =
    xor_step x (x / 2 ^ tap_of mode)
    ∙ ap (λ (k : ℕ). bit_xor (x / 2) k * 2 + differ (x % 2) (x / 2 ^ tap_of mode % 2)) (swap mode)
    ∙ ap (λ (k : ℕ). bit_xor (x / 2) (x / 2 / 2 ^ tap_of mode) * 2 + k)
    (differ_bits (x % 2) (x / 2 ^ tap_of mode % 2) (omega arith) (omega arith))
  where
    swap : (mode : Bool) → x / 2 ^ tap_of mode / 2 ≡ x / 2 / 2 ^ tap_of mode
    swap false = refl
    swap true = omega arith

-- ONE OUTPUT, AND THE OTHERS BEHIND IT

-- one output of a register whose low bits are x
one : (mode : Bool) (x u : ℕ) → x + 256 * u ≤ 32767
    → shifted_of mode (x + 256 * u) ≡ x / 2 + 128 * u + 16384 * fed mode x
unfolding fed
one mode x u h =
    let y = x + 256 * u in
    let half : y / 2 % 16384 ≡ x / 2 + 128 * u = omega arith in
    let low : bit_of y 0 ≡ x % 2 = omega arith in
    shifted_sum mode y
    ∙ rw (half, low, other mode) (ap (λ (k : ℕ). x / 2 + 128 * u + k) (mul_comm ((x % 2 + x / 2 ^ tap_of mode % 2) % 2) 16384))
  where
    other : (mode : Bool) → bit_of (x + 256 * u) (tap_of mode) ≡ bit_of x (tap_of mode)
    other false = omega arith
    other true = omega arith

fed_most : (mode : Bool) (x : ℕ) → fed mode x < 2
unfolding fed
fed_most mode x = omega arith

-- the remainder of a number by one bit more
mod_double : (a f p : ℕ) → 0 < p → f < 2 → (a * 2 + f) % (2 * p) ≡ a % p * 2 + f
mod_double a f p hp hf =
    let split : a * 2 + f ≡ a / p * (2 * p) + (a % p * 2 + f) =
    omega (arith, div-add-mod' a p, mul_left_comm (a / p) 2 p)
    in
    ap (λ (k : ℕ). k % (2 * p)) split
    ∙ mul-add-mod_self_right (a / p) (2 * p) (a % p * 2 + f)
    ∙ mod-eq_of_lt (omega (arith, mod-lt a hp))

-- j outputs to go of eight: the low bits are x, and a is what has been fed back
steps : (mode : Bool) (j w : ℕ) → w * 2 ^ j ≡ 256 → (x a : ℕ) → x + 128 * (2 ^ j * a) ≤ 32767
    → iterate (shifted_of mode) j (x + 128 * (2 ^ j * a)) ≡ x / 2 ^ j + 128 * (a + w * (all mode x % 2 ^ j))
unfolding iterate
steps mode zero w e x a h =
    let none : all mode x % 1 ≡ 0 = mod-one (all mode x) in
    rw (none, mul-zero w, div-one x) (omega arith)
steps mode (suc j) w e x a h =
    ap (iterate (shifted_of mode) j) first
    ∙ steps mode j (w * 2) (omega (arith, half, mul_right_comm w 2 p)) (x / 2) (a + w * f) bound
    ∙ rw (pow-succ' 2 j, div-div-eq-div-mul x 2 p) last
  where
    p : ℕ
    p = 2 ^ j

    f : ℕ
    f = fed mode x

    half : w * p ≡ 128
    half = omega (arith, e, ap (λ (k : ℕ). w * k) (pow-succ' 2 j), mul_left_comm w 2 p)

    -- the output itself
    start : 2 ^ suc j * a ≡ 2 * (p * a)
    start = ap (λ (k : ℕ). k * a) (pow-succ' 2 j) ∙ mul_assoc 2 p a

    joined : p * (a + w * f) ≡ p * a + 128 * f
    joined =
        mul-add p a (w * f)
        ∙ ap (λ (k : ℕ). p * a + k) (sym (mul_assoc p w f) ∙ ap (λ (k : ℕ). k * f) (mul_comm p w ∙ half))

    first : shifted_of mode (x + 128 * (2 ^ suc j * a)) ≡ x / 2 + 128 * (p * (a + w * f))
    first =
        ap (shifted_of mode) (let q : x + 128 * (2 ^ suc j * a) ≡ x + 256 * (p * a) = omega (arith, start) in q)
        ∙ one mode x (p * a) (omega (arith, start))
        ∙ omega (arith, joined)

    bound : x / 2 + 128 * (p * (a + w * f)) ≤ 32767
    bound = rw (sym first) (shifted_most mode (x + 128 * (2 ^ suc j * a)))

    -- what is fed back later
    low : all mode x % (2 * p) ≡ all mode (x / 2) % p * 2 + f
    low = ap (λ (k : ℕ). k % (2 * p)) (all_step mode x) ∙ mod_double (all mode (x / 2)) f p (pow_pos j) (fed_most mode x)

    last : x / (2 * p) + 128 * (a + w * f + w * 2 * (all mode (x / 2) % p)) ≡ x / (2 * p) + 128 * (a + w * (all mode x % (2 * p)))
    last =
        let b = all mode (x / 2) % p in
        let sum : w * (b * 2 + f) ≡ w * 2 * b + w * f =
        mul-add w (b * 2) f ∙ ap (λ (k : ℕ). k + w * f) (ap (λ (k : ℕ). w * k) (mul_comm b 2) ∙ sym (mul_assoc w 2 b))
        in
        rw (low) (omega (arith, sum))

-- UP TO EIGHT OUTPUTS AT ONCE
pub jump_steps : (mode : Bool) (k r : ℕ) → k ≤ 8 → r ≤ 32767
    → iterate (shifted_of mode) k r ≡ r / 2 ^ k + bit_xor r (r / 2 ^ tap_of mode) % 2 ^ k * 2 ^ (15 - k)
unfolding all
jump_steps mode k r h m =
    let w = 2 ^ (8 - k) in
    let b = all mode r % 2 ^ k in
    let whole : w * 2 ^ k ≡ 256 =
    sym (pow-add 2 (8 - k) k) ∙ ap (λ (i : ℕ). 2 ^ i) (let i : 8 - k + k ≡ 8 = omega arith in i)
    in
    let start : r + 128 * (2 ^ k * 0) ≡ r = rw (mul-zero (2 ^ k)) (omega arith) in
    let top : 2 ^ (15 - k) ≡ 128 * w =
    ap (λ (i : ℕ). 2 ^ i) (let i : 15 - k ≡ 7 + (8 - k) = omega arith in i) ∙ pow-add 2 7 (8 - k)
    in
    let turned : b * (128 * w) ≡ 128 * (w * b) = mul_left_comm b 128 w ∙ ap (λ (i : ℕ). 128 * i) (mul_comm b w) in
    ap (iterate (shifted_of mode) k) (sym start)
    ∙ steps mode k w whole r 0 (omega (arith, start))
    ∙ rw top (omega (arith, turned))

-- BY MASKS
pub by_jump : (r x k : ℕ) → k ≤ 8 → r ≤ 32767
    → bit_or (r / 2 ^ k) (bit_and x (1 * 2 ^ k % 65536 - 1) * 2 ^ (15 - k) % 65536) ≡ r / 2 ^ k + x % 2 ^ k * 2 ^ (15 - k)
by_jump r x k h m =
    let p = 2 ^ k in
    let q = 2 ^ (15 - k) in
    let f = x % p in
    let small : p ≤ 256 = pow-le-pow_right {n = 2} (omega arith) {i = k} {j = 8} h in
    let whole : q * p ≡ 32768 =
    sym (pow-add 2 (15 - k) k) ∙ ap (λ (i : ℕ). 2 ^ i) (let i : 15 - k + k ≡ 15 = omega arith in i)
    in
    let mask : 1 * p % 65536 - 1 ≡ p - 1 = omega arith in
    let below : f * q < p * q = mul-lt-mul_of_pos_right {m = f} {n = p} {k = q} (mod-lt x (pow_pos k)) (pow_pos (15 - k)) in
    let top : f * q % 65536 ≡ f * q = mod-eq_of_lt (omega (arith, mul_comm p q)) in
    let low : r / p < q = (div-lt_iff_lt-mul {k = p} {x = r} {y = q} (pow_pos k)).1 (omega arith) in
    rw (mask, and_mask x k, top) (or_shifted_r f (15 - k) (r / p) low ∙ add_comm (f * q) (r / p))
