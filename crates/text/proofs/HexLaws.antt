-- Hex: what is written is read back, and what is read was written. Assumes nothing.
use Rattle.std.specs.Prelude.{Some, None}
use mathlib.Core.Path.{◌≡◌, refl, ap, sym, ◌∙◌}
use mathlib.Core.List.{List, [], ◌∷◌, ◌++◌, append_assoc, append-nil}
use mathlib.Core.Bool.{Bool, true, false}
use Prim.Native.Nat.{ℕ, zero, suc, ◌+◌, ◌-◌, ◌*◌, ◌/◌, ◌%◌, ◌^◌, ◌≤◌, ◌<◌}
use native.Mathlib.Numerals.{add-one}
use native.Mathlib.Omega.{arith}
use native.Mathlib.Nat.{div-lt_iff_lt-mul, pow-suc, add-zero, pow-le-pow_right}
use borrow.Author.Tests.{eq-eqb, le-leb, lt-leb, leb-true, eqb-true, lt-ltb, le-ltb}
use lib.ListN.{length, get_or, drop, drop_of_length-le, length-append}
use lib.Seq.{drop-cons}
use lib.Dec.{leb, eqb}
use Rattle.arith.specs.Pick.{pick, both, either}
use Rattle.arith.proofs.PickLaws.{both_left, both_right}
use Rattle.text.specs.Decimal.{digit}
use Rattle.text.specs.Hex.{hex_digit, hex_value, hex_digits, hex, hex_byte, hex_text}
use Rattle.text.proofs.NumberLaws.{pick_some, pick_none}
use Rattle.text.proofs.DecimalLaws.{is_digit, digit_low, digit_high}

-- THE TWO KINDS OF HEX DIGIT, with what each says

data Kind (c : ℕ) : Type 0 where
  number : digit c ≡ true → Kind c
  letter : digit c ≡ false → 97 ≤ c → c ≤ 102 → Kind c

kind : (c : ℕ) → hex_digit c ≡ true → Kind c
unfolding hex_digit
kind c e = go (digit c) refl e
  where
    go : (b : Bool) → digit c ≡ b → either b (both (leb 97 c) (leb c 102)) ≡ true → Kind c
    go true q e = number q
    go false q e =
        letter q (leb-true _ _ (both_left (leb 97 c) (leb c 102) e)) (leb-true _ _ (both_right (leb 97 c) (leb c 102) e))

pub value_low : (c : ℕ) → hex_digit c ≡ true → hex_value c < 16
unfolding hex_value
value_low c e = go (kind c e)
  where
    go : Kind c → pick (digit c) (c - 48) (c - 87) < 16
    go (number q) = rw q (omega (arith, digit_high c q))
    go (letter q l h) = rw q (omega arith)

-- the byte of what a hex digit says is that digit
byte_value : (c : ℕ) → hex_digit c ≡ true → hex_byte (hex_value c) ≡ c
unfolding hex_value hex_byte
byte_value c e = go (kind c e)
  where
    go : Kind c → hex_byte (pick (digit c) (c - 48) (c - 87)) ≡ c
    go (number q) =
        let l = digit_low c q in
        let h = digit_high c q in
        rw (q, lt-ltb (c - 48) 10 (omega arith)) (omega arith)
    go (letter q l h) = rw (q, le-ltb (c - 87) 10 (omega arith)) (omega arith)

-- and the other way round

above_digit : (c : ℕ) → 57 < c → digit c ≡ false
unfolding digit
above_digit c h = rw (lt-leb c 57 h) (both_no (leb 48 c))
  where
    both_no : (a : Bool) → both a false ≡ false
    both_no true = refl
    both_no false = refl

data Side (d : ℕ) : Type 0 where
  small : d < 10 → Side d
  big : 10 ≤ d → Side d

side : (d : ℕ) → Side d
side d = go (leb 10 d) refl
  where
    go : (b : Bool) → leb 10 d ≡ b → Side d
    go true e = big (leb-true 10 d e)
    go false e = small (borrow.Author.Tests.leb-false 10 d e)

byte_digit : (d : ℕ) → d < 16 → hex_digit (hex_byte d) ≡ true
unfolding hex_byte hex_digit
byte_digit d h = go (side d)
  where
    go : Side d → hex_digit (hex_byte d) ≡ true
    go (small s) = rw (lt-ltb d 10 s, is_digit (48 + d) (omega arith) (omega arith))
    go (big b) =
        rw (le-ltb d 10 b, above_digit (87 + d) (omega arith), le-leb 97 (87 + d) (omega arith), le-leb (87 + d) 102 (omega arith))

value_byte : (d : ℕ) → d < 16 → hex_value (hex_byte d) ≡ d
unfolding hex_byte hex_value
value_byte d h = go (side d)
  where
    go : Side d → hex_value (hex_byte d) ≡ d
    go (small s) = rw (lt-ltb d 10 s, is_digit (48 + d) (omega arith) (omega arith)) (omega arith)
    go (big b) = rw (le-ltb d 10 b, above_digit (87 + d) (omega arith)) (omega arith)

-- WHAT A BYTE THAT WAS READ SAYS

pub record Nibble (c v : ℕ) : Type 0 where
  pub digit : hex_digit c ≡ true
  pub value : hex_value c ≡ v

pub nibble_some : (c v : ℕ) → pick (hex_digit c) (Some (hex_value c)) None ≡ Some v → Nibble c v
nibble_some c v e = let q = pick_some _ _ v e in record { digit = q.0; value = q.1 }

pub nibble_none : (c : ℕ) → pick (hex_digit c) (Some (hex_value c)) None ≡ None → hex_digit c ≡ false
nibble_none c e = pick_none _ _ e

-- THE DIGITS FROM A PLACE ON

module _ (s : List ℕ) (i : ℕ) (h : i < length s) where
  pub hex_one : (n : ℕ) → hex_digit (get_or s i 0) ≡ true → hex_digits n (drop i s) ≡ hex_digits (n * 16 + hex_value (get_or s i 0)) (drop (i + 1) s)
  unfolding hex_digits
  hex_one n e = rw (add-one, drop-cons s i 0, e)

  pub hex_other : (n : ℕ) → hex_digit (get_or s i 0) ≡ false → hex_digits n (drop i s) ≡ None
  unfolding hex_digits
  hex_other n e = rw (drop-cons s i 0, e)

pub hex_end : (s : List ℕ) (i n : ℕ) → length s ≤ i → hex_digits n (drop i s) ≡ Some n
unfolding hex_digits
hex_end s i n h = rw (drop_of_length-le s h)

-- one digit more

pub hex_next : (i n d : ℕ) → n < 16 ^ i → d < 16 → n * 16 + d < 16 ^ (i + 1)
hex_next i n d h l = rw (add-one, pow-suc) (omega arith)

pub hex_fits : (i n : ℕ) → i ≤ 4 → n < 16 ^ i → n < 65536
hex_fits i n l h = omega (arith, pow-le-pow_right {n = 16} (omega arith) {i = i} {j = 4} l)

-- what reading hex byte by byte needs
pub ruleset hex_steps = (nibble_some, nibble_none, value_low, hex_one, hex_other, hex_end, hex_next, hex_fits)

-- WRITTEN, THEN READ

hex_snoc : (s : List ℕ) (m n d : ℕ) → d < 16 → hex_digits m s ≡ Some n → hex_digits m (s ++ (hex_byte d ∷ [])) ≡ Some (n * 16 + d)
unfolding hex_digits
hex_snoc [] m n d h e =
    let q : m ≡ n = cc in
    rw (byte_digit d h, value_byte d h, q)
hex_snoc (c ∷ s) m n d h e = go (hex_digit c) e (hex_snoc s (m * 16 + hex_value c) n d h)
  where
    go : (b : Bool) → pick b (hex_digits (m * 16 + hex_value c) s) None ≡ Some n
        → (hex_digits (m * 16 + hex_value c) s ≡ Some n → hex_digits (m * 16 + hex_value c) (s ++ (hex_byte d ∷ [])) ≡ Some (n * 16 + d))
        → pick b (hex_digits (m * 16 + hex_value c) (s ++ (hex_byte d ∷ []))) None ≡ Some (n * 16 + d)
    go true e r = r e
    go false e r = absurd (let z : ◌≡◌ {A = ℕ} 0 1 = cc in omega arith)

low_pow : (k n : ℕ) → n < 16 ^ suc k → n / 16 < 16 ^ k
low_pow k n h = (div-lt_iff_lt-mul {k = 16} {x = n} {y = 16 ^ k} (omega arith)).1 (rw pow-suc at h)

back : (k n : ℕ) → n < 16 ^ k → hex_digits 0 (hex_text k n) ≡ Some n
unfolding hex_text hex_digits
back zero n h = ap Some (none h)
  where
    none : n < 16 ^ 0 → 0 ≡ n
    none h = omega arith
back (suc k) n h =
    hex_snoc (hex_text k (n / 16)) 0 (n / 16) (n % 16) (omega arith) (back k (n / 16) (low_pow k n h))
    ∙ ap Some (omega arith)

pub hex_length : (k n : ℕ) → length (hex_text k n) ≡ k
unfolding hex_text
hex_length zero n = refl
hex_length (suc k) n = length-append (hex_text k (n / 16)) (hex_byte (n % 16) ∷ []) ∙ (rw (hex_length k (n / 16)) (add-one k))

-- every number below 16 ^ k is read as itself
pub hex_complete : (k n : ℕ) → n < 16 ^ k → hex k (hex_text k n) ≡ Some n
unfolding hex
hex_complete k n h = rw (eq-eqb _ _ (hex_length k n)) (back k n h)

-- READ, THEN WRITTEN

push : (k m c : ℕ) → hex_digit c ≡ true → hex_text (suc k) (m * 16 + hex_value c) ≡ hex_text k m ++ (c ∷ [])
unfolding hex_text
push k m c e =
    let l = value_low c e in
    let a : (m * 16 + hex_value c) / 16 ≡ m = omega arith in
    let b : (m * 16 + hex_value c) % 16 ≡ hex_value c = omega arith in
    rw (a, b, byte_value c e)

again : (s : List ℕ) (m n k : ℕ) → hex_digits m s ≡ Some n → hex_text (k + length s) n ≡ hex_text k m ++ s
unfolding hex_digits
again [] m n k e =
    let q : m ≡ n = cc in
    rw (add-zero, append-nil, q)
again (c ∷ s) m n k e = go (hex_digit c) refl e (again s (m * 16 + hex_value c) n (suc k))
  where
    go : (b : Bool) → hex_digit c ≡ b → pick b (hex_digits (m * 16 + hex_value c) s) None ≡ Some n
        → (hex_digits (m * 16 + hex_value c) s ≡ Some n → hex_text (suc k + length s) n ≡ hex_text (suc k) (m * 16 + hex_value c) ++ s)
        → hex_text (k + suc (length s)) n ≡ hex_text k m ++ (c ∷ s)
    go true q e r =
        ap (λ (f : ℕ). hex_text f n) (omega arith)
        ∙ (r e ∙ (ap (λ (x : List ℕ). x ++ s) (push k m c q) ∙ append_assoc (hex_text k m) (c ∷ []) s))
    go false q e r = absurd (let z : ◌≡◌ {A = ℕ} 0 1 = cc in omega arith)

bound : (s : List ℕ) (m n a : ℕ) → m < 16 ^ a → hex_digits m s ≡ Some n → n < 16 ^ (a + length s)
unfolding hex_digits
bound [] m n a h e =
    let q : m ≡ n = cc in
    rw (add-zero, ← q) h
bound (c ∷ s) m n a h e = go (hex_digit c) refl e (bound s (m * 16 + hex_value c) n (a + 1))
  where
    go : (b : Bool) → hex_digit c ≡ b → pick b (hex_digits (m * 16 + hex_value c) s) None ≡ Some n
        → (m * 16 + hex_value c < 16 ^ (a + 1) → hex_digits (m * 16 + hex_value c) s ≡ Some n → n < 16 ^ (a + 1 + length s))
        → n < 16 ^ (a + suc (length s))
    go true q e r =
        let k : a + 1 + length s ≡ a + suc (length s) = omega arith in
        rw k at (r (hex_next a m (hex_value c) h (value_low c q)) e)
    go false q e r = absurd (let z : ◌≡◌ {A = ℕ} 0 1 = cc in omega arith)

-- what is read as n in k digits is n's text in k digits, and n fits them
pub record HexOf (k n : ℕ) (s : List ℕ) : Type 0 where
  pub is : s ≡ hex_text k n
  pub fits : n < 16 ^ k

text_none : (s : List ℕ) → hex_text 0 0 ++ s ≡ s
unfolding hex_text
text_none s = refl

pub hex_sound : (k : ℕ) (s : List ℕ) (n : ℕ) → hex k s ≡ Some n → HexOf k n s
unfolding hex
hex_sound k s n e = go (eqb (length s) k) refl e
  where
    go : (b : Bool) → eqb (length s) k ≡ b → pick b (hex_digits 0 s) None ≡ Some n → HexOf k n s
    go true q e =
        let l = eqb-true (length s) k q in
        let w : 0 + length s ≡ k = omega arith in
        record {
          is = sym (rw w at (again s 0 n 0 e ∙ text_none s));
          fits = rw w at (bound s 0 n 0 (omega arith) e);
        }
    go false q e = absurd (let z : ◌≡◌ {A = ℕ} 0 1 = cc in omega arith)
