-- Steps that go through XOR: two of them that are equal at the powers of two are equal. Assumes nothing.
use Prim.Native.Nat.{ℕ, zero, suc, ◌+◌, ◌*◌, ◌/◌, ◌%◌, ◌^◌, ◌<◌}
use mathlib.Core.Path.{◌≡◌, refl, sym, ap, ap₂, ◌∙◌}
use mathlib.Core.Bool.{Bool, true}
use native.Mathlib.Nat.{mod-lt, div-lt_iff_lt-mul, pow-succ', zero-mul, one-mul}
use native.Mathlib.Omega.{arith}
use lib.Arith.{bin_ind}
use lib.Bits.{bit_xor, differ, xor_step, xor_comm, xor_self, xor_shr, xor_mod, xor_shifted}
use lib.Dec.{eqb}
use lib.Pow.{pow_pos, split}
use borrow.Author.Tests.{eqb-true}
use Rattle.arith.specs.Iterate.{iterate}
use Rattle.arith.specs.Pick.{both}
use Rattle.arith.proofs.BitLaws.{xor_bits}
use Rattle.arith.proofs.PickLaws.{both_left, both_right}

-- XOR ITSELF

pub differ_bits : (x y : ℕ) → x < 2 → y < 2 → differ x y ≡ (x + y) % 2
differ_bits zero zero hx hy = refl
differ_bits zero (suc zero) hx hy = refl
differ_bits (suc zero) zero hx hy = refl
differ_bits (suc zero) (suc zero) hx hy = refl
differ_bits zero (suc (suc y)) hx hy = absurd (omega arith)
differ_bits (suc zero) (suc (suc y)) hx hy = absurd (omega arith)
differ_bits (suc (suc x)) y hx hy = absurd (omega arith)

-- its lowest bit, and the others behind it
odd : (a b : ℕ) → bit_xor a b % 2 ≡ (a % 2 + b % 2) % 2
odd a b = xor_mod a b 1 ∙ xor_bits (a % 2) (b % 2) (omega arith) (omega arith)

digit : (a b : ℕ) → bit_xor a b ≡ bit_xor (a / 2) (b / 2) * 2 + (a % 2 + b % 2) % 2
digit a b =
    xor_step a b
    ∙ ap (λ (k : ℕ). bit_xor (a / 2) (b / 2) * 2 + k) (differ_bits (a % 2) (b % 2) (omega arith) (omega arith))

carry : (a b c : ℕ) → ((a + b) % 2 + c) % 2 ≡ (a + (b + c) % 2) % 2
carry a b c = omega arith

assoc : (a b c : ℕ) → bit_xor (bit_xor a b) c ≡ bit_xor a (bit_xor b c)
assoc a =
    bin_ind (λ (n : ℕ). (b c : ℕ) → bit_xor (bit_xor n b) c ≡ bit_xor n (bit_xor b c)) (λ b c. refl)
    (λ n ih b c.
    let rest : bit_xor (bit_xor n b / 2) (c / 2) ≡ bit_xor (n / 2) (bit_xor b c / 2) =
    ap (λ (k : ℕ). bit_xor k (c / 2)) (xor_shr n b 1) ∙ ih (b / 2) (c / 2) ∙ ap (bit_xor (n / 2)) (sym (xor_shr b c 1))
    in
    let low : (bit_xor n b % 2 + c % 2) % 2 ≡ (n % 2 + bit_xor b c % 2) % 2 =
    rw (odd n b, odd b c) (carry (n % 2) (b % 2) (c % 2))
    in
    digit (bit_xor n b) c ∙ ap₂ (λ (x y : ℕ). x * 2 + y) rest low ∙ sym (digit n (bit_xor b c)))
    a

pub xor_four : (a b c d : ℕ) → bit_xor (bit_xor a b) (bit_xor c d) ≡ bit_xor (bit_xor a c) (bit_xor b d)
xor_four a b c d =
    assoc a b (bit_xor c d)
    ∙ ap (bit_xor a) (sym (assoc b c d) ∙ ap (λ (k : ℕ). bit_xor k d) (xor_comm b c) ∙ assoc c b d)
    ∙ sym (assoc a c (bit_xor b d))

-- STEPS THAT GO THROUGH IT
abbrev pub Linear : (ℕ → ℕ) → Type 0
Linear f = (x y : ℕ) → f (bit_xor x y) ≡ bit_xor (f x) (f y)

pub linear_iterate : (f : ℕ → ℕ) → Linear f → (k : ℕ) → Linear (iterate f k)
unfolding iterate
linear_iterate f l zero x y = refl
linear_iterate f l (suc k) x y = ap (iterate f k) (l x y) ∙ linear_iterate f l k (f x) (f y)

pub linear_xor : (f g : ℕ → ℕ) → Linear f → Linear g → Linear (λ x. bit_xor (f x) (g x))
linear_xor f g lf lg x y = ap₂ bit_xor (lf x y) (lg x y) ∙ xor_four (f x) (f y) (g x) (g y)

at_zero : (f : ℕ → ℕ) → Linear f → f 0 ≡ 0
at_zero f l = l 0 0 ∙ xor_self (f 0)

-- f and g are equal at the first k powers of two
abbrev pub alike_at : (ℕ → ℕ) → (ℕ → ℕ) → ℕ → Bool
alike_at f g zero = true
alike_at f g (suc k) = both (eqb (f (2 ^ k)) (g (2 ^ k))) (alike_at f g k)

module _ (f g : ℕ → ℕ) (lf : Linear f) (lg : Linear g) where
  none : f 0 ≡ g 0
  none = at_zero f lf ∙ sym (at_zero g lg)

  -- equal below a power of two and at it, equal below the next
  further : (k : ℕ) → ((y : ℕ) → y < 2 ^ k → f y ≡ g y) → f (2 ^ k) ≡ g (2 ^ k) → (x : ℕ) → x < 2 ^ suc k → f x ≡ g x
  further k below here x h =
      ap f (sym parts) ∙ lf (q * 2 ^ k) r ∙ ap₂ bit_xor (top q few) (below r (mod-lt x (pow_pos k)))
      ∙ sym (lg (q * 2 ^ k) r) ∙ ap g parts
    where
      q : ℕ
      q = x / 2 ^ k

      r : ℕ
      r = x % 2 ^ k

      few : q < 2
      few = (div-lt_iff_lt-mul {k = 2 ^ k} {x = x} {y = 2} (pow_pos k)).1 (rw (sym (pow-succ' 2 k)) h)

      parts : bit_xor (q * 2 ^ k) r ≡ x
      parts = xor_shifted q k r (mod-lt x (pow_pos k)) ∙ split x k

      top : (q : ℕ) → q < 2 → f (q * 2 ^ k) ≡ g (q * 2 ^ k)
      top zero h = rw (zero-mul (2 ^ k)) none
      top (suc zero) h = rw (one-mul (2 ^ k)) here
      top (suc (suc q)) h = absurd (omega arith)

  -- EQUAL AT k POWERS OF TWO, EQUAL BELOW THE NEXT
  pub everywhere : (k : ℕ) → alike_at f g k ≡ true → (x : ℕ) → x < 2 ^ k → f x ≡ g x
  everywhere zero t x h = let e : x ≡ 0 = omega arith in rw e none
  everywhere (suc k) t x h =
      let here = eqb (f (2 ^ k)) (g (2 ^ k)) in
      further k (everywhere k (both_right here (alike_at f g k) t)) (eqb-true _ _ (both_left here (alike_at f g k) t)) x h
