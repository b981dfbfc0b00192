-- Many outputs of the noise register at once: its step goes through XOR, so what holds of 15 registers holds of all. Assumes nothing.
use Prim.Native.Nat.{ℕ, zero, suc, ◌+◌, ◌*◌, ◌/◌, ◌%◌, ◌^◌, ◌≤◌}
use mathlib.Core.Path.{◌≡◌, refl, sym, ap, ap₂, ◌∙◌}
use mathlib.Core.Bool.{Bool, true, false}
use native.Mathlib.Nat.{add_comm, mul-add, mul-one}
use native.Mathlib.Omega.{arith}
use lib.Bits.{bit_xor, xor_block, xor_shr, xor_mod}
use Rattle.arith.specs.Bit.{bit_of}
use Rattle.arith.specs.Iterate.{iterate}
use Rattle.arith.proofs.IterateLaws.{iterate_zero, iterate_add}
use Rattle.chip_noise.specs.Shifter.{tap_of, shifted_of}
use Rattle.leap_noise.proofs.LinearLaws.{Linear, alike_at, linear_iterate, linear_xor, xor_four, everywhere}

-- THE STEP GOES THROUGH XOR

bit_xor_lem : (k x y : ℕ) → bit_of (bit_xor x y) k ≡ bit_xor (bit_of x k) (bit_of y k)
bit_xor_lem k x y = ap (λ (m : ℕ). m % 2) (xor_shr x y k) ∙ xor_mod (x / 2 ^ k) (y / 2 ^ k) 1

-- what is fed back
abbrev top : Bool → ℕ → ℕ
top mode r = bit_xor (bit_of r 0) (bit_of r (tap_of mode))

top_xor : (mode : Bool) → Linear (top mode)
top_xor mode x y =
    ap₂ bit_xor (bit_xor_lem 0 x y) (bit_xor_lem (tap_of mode) x y)
    ∙ xor_four (bit_of x 0) (bit_of y 0) (bit_of x (tap_of mode)) (bit_of y (tap_of mode))

-- what is shifted
abbrev low : ℕ → ℕ
low r = r / 2 % 2 ^ 14

low_xor : Linear low
low_xor x y = ap (λ (m : ℕ). m % 2 ^ 14) (xor_shr x y 1) ∙ xor_mod (x / 2) (y / 2) 14

by_parts : (mode : Bool) (r : ℕ) → shifted_of mode r ≡ top mode r * 2 ^ 14 + low r
unfolding shifted_of
by_parts mode r = add_comm (low r) (top mode r * 2 ^ 14)

shifted_xor : (mode : Bool) → Linear (shifted_of mode)
shifted_xor mode x y =
    by_parts mode (bit_xor x y)
    ∙ ap₂ (λ (a b : ℕ). a * 2 ^ 14 + b) (top_xor mode x y) (low_xor x y)
    ∙ sym (xor_block 14 (top mode x) (top mode y) (low x) (low y) (omega arith) (omega arith))
    ∙ ap₂ bit_xor (sym (by_parts mode x)) (sym (by_parts mode y))

-- ANY NUMBER OF BLOCKS: one block of c outputs more
pub block_more : (mode : Bool) (c i x : ℕ)
    → iterate (shifted_of mode) c (iterate (shifted_of mode) (c * i) x) ≡ iterate (shifted_of mode) (c * (i + 1)) x
block_more mode c i x =
    let e : c * i + c ≡ c * (i + 1) = sym (mul-add c i 1 ∙ ap (λ (k : ℕ). c * i + k) (mul-one c)) in
    sym (iterate_add (shifted_of mode) (c * i) c x) ∙ ap (λ (m : ℕ). iterate (shifted_of mode) m x) e

-- MODE CLEAR: 256 outputs are XOR of 1 and of 4
abbrev leap : ℕ → ℕ
leap x = bit_xor (iterate (shifted_of false) 1 x) (iterate (shifted_of false) 4 x)

leap_test : alike_at (iterate (shifted_of false) 256) leap 15 ≡ true
unfolding iterate shifted_of
leap_test = refl

pub leap_of : (x : ℕ) → x ≤ 32767 → iterate (shifted_of false) 256 x ≡ leap x
leap_of x h =
    let s = shifted_of false in
    let l = linear_iterate s (shifted_xor false) in
    everywhere (iterate s 256) leap (l 256) (linear_xor (iterate s 1) (iterate s 4) (l 1) (l 4)) 15 leap_test x (omega arith)

-- MODE SET: 93 outputs give the register back
round_test : alike_at (iterate (shifted_of true) 93) (λ x. x) 15 ≡ true
unfolding iterate shifted_of
round_test = refl

round : (x : ℕ) → x ≤ 32767 → iterate (shifted_of true) 93 x ≡ x
round x h =
    let s = shifted_of true in
    everywhere (iterate s 93) (λ x. x) (linear_iterate s (shifted_xor true) 93) (λ x y. refl) 15 round_test x (omega arith)

rounds : (m x : ℕ) → x ≤ 32767 → iterate (shifted_of true) (93 * m) x ≡ x
rounds zero x h = iterate_zero (shifted_of true) x
rounds (suc m) x h =
    ap (λ (k : ℕ). iterate (shifted_of true) k x) (let e : 93 * suc m ≡ 93 + 93 * m = omega arith in e)
    ∙ iterate_add (shifted_of true) 93 (93 * m) x
    ∙ ap (iterate (shifted_of true) (93 * m)) (round x h)
    ∙ rounds m x h

pub round_rest : (k x : ℕ) → x ≤ 32767 → iterate (shifted_of true) (k % 93) x ≡ iterate (shifted_of true) k x
round_rest k x h =
    let s = shifted_of true in
    let e : 93 * (k / 93) + k % 93 ≡ k = omega arith in
    ap (iterate s (k % 93)) (sym (rounds (k / 93) x h))
    ∙ sym (iterate_add s (93 * (k / 93)) (k % 93) x)
    ∙ ap (λ (m : ℕ). iterate s m x) e
