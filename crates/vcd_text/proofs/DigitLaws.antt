-- A number in twenty digits: in ten where they are enough, else ten behind the rest. Assumes nothing.
use Prim.Native.Nat.{ℕ, zero, suc, ◌+◌, ◌/◌, ◌%◌, ◌^◌, ◌≤◌, ◌<◌}
use mathlib.Core.Path.{◌≡◌, sym, ap, ◌∙◌}
use mathlib.Core.List.{List, [], ◌∷◌, ◌++◌, append_assoc, append-nil}
use native.Mathlib.Nat.{add-zero, add-suc, suc-add, div-one, div-div-eq-div-mul, pow-zero, pow-suc, pow-succ'}
use native.Mathlib.Omega.{arith}
use borrow.Author.Tests.{lt-ltb, le-ltb}
use lib.Dec.{ltb}
use Rattle.arith.specs.Pick.{pick}
use Rattle.text.specs.Decimal.{digits_of, decimal_text}
use Rattle.text_print.specs.Printed.{digits_in}
use Rattle.text_print.proofs.DecimalLaws.{decimal_shown}

ten_pos : (w : ℕ) → 0 < 10 ^ w
ten_pos zero = rw pow-zero (omega arith)
ten_pos (suc w) = omega (arith, pow-suc 10 w, ten_pos w)

-- the last k digits, and those before them
split : (j k n : ℕ) → 10 ^ k ≤ n → digits_of (j + k) n ≡ digits_of j (n / 10 ^ k) ++ digits_in k n
unfolding digits_of digits_in
split j zero n h = rw (add-zero, pow-zero, div-one, append-nil)
split j (suc k) n h =
    let pos = ten_pos k in
    let ten : 10 ≤ n = omega (arith, pow-suc 10 k) in
    let last = (48 + n % 10) ∷ [] in
    rw (add-suc, le-ltb _ _ ten)
    (ap (λ (d : List ℕ). d ++ last) (split j k (n / 10) (omega (arith, pow-suc 10 k)))
    ∙ (append_assoc (digits_of j (n / 10 / 10 ^ k)) (digits_in k (n / 10)) last
    ∙ ap (λ (q : ℕ). digits_of j q ++ (digits_in k (n / 10) ++ last)) (div-div-eq-div-mul n 10 (10 ^ k) ∙ ap (λ (p : ℕ). n / p) (sym (pow-succ' 10 k)))))

-- room for more digits than there are
few : (j k n : ℕ) → n < 10 ^ suc j → digits_of (suc (j + k)) n ≡ digits_of (suc j) n
unfolding digits_of
few zero k n h = let l : n < 10 = h in rw (lt-ltb _ _ l)
few (suc j) k n h =
    rw (suc-add j k) (ap (λ (d : List ℕ). pick (ltb n 10) ((48 + n) ∷ []) (d ++ ((48 + n % 10) ∷ []))) (few j k (n / 10) (omega (arith, pow-suc 10 (suc j)))))

module _ (n : ℕ) where
  pub short_time : n < 10000000000 → digits_of 20 n ≡ decimal_text n
  unfolding decimal_text
  short_time h = few 9 10 n h

  pub long_time : 10000000000 ≤ n → digits_of 20 n ≡ decimal_text (n / 10000000000) ++ decimal_text n
  unfolding decimal_text
  long_time h =
      split 10 10 n h ∙ ap (λ (d : List ℕ). digits_of 10 (n / 10000000000) ++ d) (sym (decimal_shown 9 n (omega arith) (λ z. omega arith) (λ z. absurd (omega (arith, z)))))
