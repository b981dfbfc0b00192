-- A decimal is its last digits, as many as it has. Assumes nothing.
use Prim.Native.Nat.{ℕ, zero, suc, ◌+◌, ◌/◌, ◌%◌, ◌^◌, ◌≤◌, ◌<◌}
use mathlib.Core.Path.{◌≡◌, refl, sym, ap, ◌∙◌}
use mathlib.Core.Bool.{Bool, true, false}
use mathlib.Core.List.{List, [], ◌∷◌, ◌++◌}
use native.Mathlib.Nat.{pow-zero, pow-suc}
use native.Mathlib.Omega.{arith}
use lib.Dec.{ltb}
use borrow.Author.Tests.{lt-ltb, le-ltb, ltb-true}
use lib.ListN.{length, length-append}
use Rattle.arith.specs.Pick.{pick}
use Rattle.text.specs.Decimal.{digits_of, decimal_text}
use Rattle.text_print.specs.Printed.{digits_in}

pub length_digits : (k n : ℕ) → length (digits_in k n) ≡ k
unfolding digits_in
length_digits zero n = refl
length_digits (suc k) n = length-append (digits_in k (n / 10)) ((48 + n % 10) ∷ []) ∙ omega (arith, length_digits k (n / 10))

pub digits_more : (k n : ℕ) → digits_in (suc k) n ≡ digits_in k (n / 10) ++ ((48 + n % 10) ∷ [])
unfolding digits_in
digits_more k n = refl

ten_pos : (w : ℕ) → 0 < 10 ^ w
ten_pos zero = rw pow-zero (omega arith)
ten_pos (suc w) = omega (arith, pow-suc 10 w, ten_pos w)

-- n has w + 1 digits, or k + 1 at least
shown : (w k n : ℕ) → w ≤ k → (0 < w → 10 ^ w ≤ n) → (w < k → n < 10 ^ suc w) → digits_of (suc k) n ≡ digits_in (suc w) n
unfolding digits_of digits_in
shown zero zero n a l h = go (ltb n 10) refl
  where
    go : (b : Bool) → ltb n 10 ≡ b → pick b ((48 + n) ∷ []) ((48 + n % 10) ∷ []) ≡ (48 + n % 10) ∷ []
    go true e =
        let q : n < 10 = ltb-true n 10 e in
        let d : n % 10 ≡ n = omega arith in
        rw d
    go false e = refl
shown zero (suc k) n a l h =
    let q : n < 10 = h (omega arith) in
    let d : n % 10 ≡ n = omega arith in
    rw (lt-ltb _ _ q, d)
shown (suc w) zero n a l h = absurd (omega arith)
shown (suc w) (suc k) n a l h =
    let low : 10 ^ suc w ≤ n = l (omega arith) in
    let pos : 0 < 10 ^ w = ten_pos w in
    let ten : 10 ≤ n = omega (arith, pow-suc 10 w) in
    let rest = shown w k (n / 10) (omega arith) (λ z. omega (arith, pow-suc 10 w)) (λ z. let u = h (omega arith) in omega (arith, pow-suc 10 (suc w))) in
    rw (le-ltb _ _ ten) (ap (λ (d : List ℕ). d ++ ((48 + n % 10) ∷ [])) rest)

-- a number of w + 1 digits, of at most ten
pub decimal_shown : (w n : ℕ) → w ≤ 9 → (0 < w → 10 ^ w ≤ n) → (w < 9 → n < 10 ^ suc w) → decimal_text n ≡ digits_in (suc w) n
unfolding decimal_text
decimal_shown w n a l h = shown w 9 n a l h

pub decimal_long : (n k : ℕ) → decimal_text n ≡ digits_in k n → length (decimal_text n) ≡ k
decimal_long n k e = ap length e ∙ length_digits k n

-- what `width` says of it
pub shown_width : (w n : ℕ) → w ≤ 9 → (0 < w → 10 ^ w ≤ n) → (w < 9 → n < 10 ^ suc w) → (suc w ≡ length (decimal_text n)) × ((suc w ≤ 10) × (decimal_text n ≡ digits_in (suc w) n))
shown_width w n a l h = let e = decimal_shown w n a l h in (sym (decimal_long n (suc w) e), (omega arith, e))
