-- Bytes as a word. Assumes nothing.
use Prim.Native.Nat.{ℕ, zero, suc, ◌+◌, ◌*◌, ◌/◌, ◌%◌, ◌^◌, ◌≤◌, ◌<◌}
use mathlib.Core.Path.{◌≡◌, refl, sym, ap, ap₂, ◌∙◌}
use mathlib.Core.List.{List, [], ◌∷◌, ◌++◌}
use native.Mathlib.Nat.{zero-div, div-one, zero-add, suc-add}
use native.Mathlib.Omega.{arith}
use lib.ListN.{length, drop}
use lib.Pow.{shr-shr}
use Rattle.play_levels.specs.Words.{word_of, word_bytes, Hundreds, tens_of}

-- each is below 256
unfoldable pub Bytes : List ℕ → Type 0
Bytes [] = Unit {0}
Bytes (b ∷ l) = (b < 256) × Bytes l

pub bytes_append : (u v : List ℕ) → Bytes u → Bytes v → Bytes (u ++ v)
unfolding Bytes
bytes_append [] v h k = k
bytes_append (b ∷ u) v h k = (h.0, bytes_append u v h.1 k)

low_byte : (b w : ℕ) → b < 256 → (b + 256 * w) % 256 ≡ b
low_byte b w h = omega arith

high_bytes : (b w : ℕ) → b < 256 → (b + 256 * w) / 256 ≡ w
high_bytes b w h = omega arith

-- the bytes of a word of bytes are these, and zeros
pub word_bytes_lem : (text : List ℕ) (j : ℕ) → Bytes text → word_bytes (length text + j) (word_of text) ≡ text ++ word_bytes j 0
unfolding word_of word_bytes Bytes
word_bytes_lem [] j h = ap (λ (k : ℕ). word_bytes k 0) (zero-add j)
word_bytes_lem (b ∷ l) j h = ap (λ (k : ℕ). word_bytes k (b + 256 * word_of l)) (suc-add (length l) j) ∙ ap₂ (λ (x : ℕ) (y : List ℕ). x ∷ y) (low_byte b (word_of l) h.0) (ap (word_bytes (length l + j)) (high_bytes b (word_of l) h.0) ∙ word_bytes_lem l j h.1)

pub length_bytes : (k w : ℕ) → length (word_bytes k w) ≡ k
unfolding word_bytes
length_bytes zero w = refl
length_bytes (suc k) w = ap suc (length_bytes k (w / 256))

-- without its first bytes
pub word_drop : (j : ℕ) (text : List ℕ) → Bytes text → word_of text / 2 ^ (8 * j) ≡ word_of (drop j text)
unfolding word_of Bytes
word_drop zero text h = div-one (word_of text)
word_drop (suc j) [] h = zero-div (2 ^ (8 * suc j))
word_drop (suc j) (b ∷ l) h =
    let e : 8 * suc j ≡ 8 + 8 * j = omega arith in
    ap (λ (k : ℕ). (b + 256 * word_of l) / 2 ^ k) e
    ∙ sym (shr-shr (b + 256 * word_of l) 8 (8 * j))
    ∙ ap (λ (w : ℕ). w / 2 ^ (8 * j)) (high_bytes b (word_of l) h.0)
    ∙ word_drop j l h.1

-- NUMBERS BELOW 100 in 16 bits each

pub tenth : (x : ℕ) → x ≤ 99 → x * 103 / 1024 ≡ x / 10
tenth x h = omega arith

low_bits : (y z : ℕ) → y < 64 → (y + 64 * z) % 64 ≡ y
low_bits y z h = omega arith

-- a tenth of each by one product
field_tens : (x s : ℕ) → x ≤ 99 → (x + 65536 * s) * 103 / 1024 % 64 ≡ x / 10
field_tens x s h =
    let apart : (x + 65536 * s) * 103 / 1024 ≡ x * 103 / 1024 + 64 * (103 * s) = omega arith in
    ap (λ (n : ℕ). n % 64) (apart ∙ ap (λ (n : ℕ). n + 64 * (103 * s)) (tenth x h)) ∙ low_bits (x / 10) (103 * s) (omega arith)

field_rest : (x s : ℕ) → x ≤ 99 → (x + 65536 * s) * 103 / 1024 / 65536 ≡ s * 103 / 1024
field_rest x s h = omega arith

low_half : (x s : ℕ) → x ≤ 99 → (x + 65536 * s) % 65536 ≡ x
low_half x s h = omega arith

high_half : (x s : ℕ) → x ≤ 99 → (x + 65536 * s) / 65536 ≡ s
high_half x s h = omega arith

split : (p : ℕ) → p ≡ p % 65536 + 65536 * (p / 65536)
split p = omega arith

tens_first : (p : ℕ) → p % 65536 ≤ 99 → p * 103 / 1024 % 64 ≡ p % 65536 / 10
tens_first p h = ap (λ (n : ℕ). n * 103 / 1024 % 64) (split p) ∙ field_tens (p % 65536) (p / 65536) h

tens_rest : (p : ℕ) → p % 65536 ≤ 99 → p * 103 / 1024 / 65536 ≡ p / 65536 * 103 / 1024
tens_rest p h = ap (λ (n : ℕ). n * 103 / 1024 / 65536) (split p) ∙ field_rest (p % 65536) (p / 65536) h

tens_last : (p : ℕ) → p % 65536 ≤ 99 → p / 65536 ≡ 0 → p * 103 / 1024 ≡ p % 65536 / 10
tens_last p h e =
    let same : p ≡ p % 65536 = omega arith in
    ap (λ (n : ℕ). n * 103 / 1024) same ∙ tenth (p % 65536) h

pub tens_four : (p a b c d : ℕ) → Hundreds 4 p → a ≡ p * 103 / 1024 → b ≡ a / 65536 → c ≡ b / 65536 → d ≡ c / 65536
    → a % 64 + 65536 * (b % 64 + 65536 * (c % 64 + 65536 * d)) ≡ tens_of 4 p
unfolding Hundreds tens_of
tens_four p a b c d h ea eb ec ed =
    let p1 = p / 65536 in
    let p2 = p1 / 65536 in
    let p3 = p2 / 65536 in
    let e1 : b ≡ p1 * 103 / 1024 = eb ∙ ap (λ (n : ℕ). n / 65536) ea ∙ tens_rest p h.0 in
    let e2 : c ≡ p2 * 103 / 1024 = ec ∙ ap (λ (n : ℕ). n / 65536) e1 ∙ tens_rest p1 h.1.0 in
    let e3 : d ≡ p3 * 103 / 1024 = ed ∙ ap (λ (n : ℕ). n / 65536) e2 ∙ tens_rest p2 h.1.1.0 in
    let f0 : a % 64 ≡ p % 65536 / 10 = ap (λ (n : ℕ). n % 64) ea ∙ tens_first p h.0 in
    let f1 : b % 64 ≡ p1 % 65536 / 10 = ap (λ (n : ℕ). n % 64) e1 ∙ tens_first p1 h.1.0 in
    let f2 : c % 64 ≡ p2 % 65536 / 10 = ap (λ (n : ℕ). n % 64) e2 ∙ tens_first p2 h.1.1.0 in
    let f3 : d ≡ p3 % 65536 / 10 = e3 ∙ tens_last p3 h.1.1.1.0 h.1.1.1.1 in
    rw (f0, f1, f2, f3) (omega arith)

-- four numbers below 100
pub hundreds_four : (w x y z : ℕ) → w ≤ 99 → x ≤ 99 → y ≤ 99 → z ≤ 99 → Hundreds 4 (w + 65536 * (x + 65536 * (y + 65536 * z)))
unfolding Hundreds
hundreds_four w x y z hw hx hy hz =
    rw (
      low_half w (x + 65536 * (y + 65536 * z)) hw,
      high_half w (x + 65536 * (y + 65536 * z)) hw,
      low_half x (y + 65536 * z) hx,
      high_half x (y + 65536 * z) hx,
      low_half y z hy,
      high_half y z hy,
    )
    (hw, (hx, (hy, (omega arith, omega arith))))

pub tens_of_four : (w x y z : ℕ) → w ≤ 99 → x ≤ 99 → y ≤ 99 → z ≤ 99
    → tens_of 4 (w + 65536 * (x + 65536 * (y + 65536 * z))) ≡ w / 10 + 65536 * (x / 10 + 65536 * (y / 10 + 65536 * (z / 10)))
unfolding tens_of
tens_of_four w x y z hw hx hy hz =
    let few : z % 65536 ≡ z = omega arith in
    rw (
      low_half w (x + 65536 * (y + 65536 * z)) hw,
      high_half w (x + 65536 * (y + 65536 * z)) hw,
      low_half x (y + 65536 * z) hx,
      high_half x (y + 65536 * z) hx,
      low_half y z hy,
      high_half y z hy,
      few,
    )
    (omega arith)

pub hundreds_most : (p : ℕ) → Hundreds 4 p → p ≤ 27866447902605411
unfolding Hundreds
hundreds_most p h = omega (arith, h.0, h.1.0, h.1.1.0, h.1.1.1.0, h.1.1.1.1)

pub tens_most : (w x y z t : ℕ) → w ≤ 99 → x ≤ 99 → y ≤ 99 → z ≤ 99 → t ≡ w / 10 + 65536 * (x / 10 + 65536 * (y / 10 + 65536 * (z / 10))) → t ≤ 2533313445691401
tens_most w x y z t hw hx hy hz e = omega arith

-- a pair of digits from a number below 100 and its tens
pair_word : (x : ℕ) → x ≤ 99 → 12336 + 256 * x ≡ 2559 * (x / 10) + (48 + x / 10 + 256 * (48 + x % 10))
pair_word x h = omega arith

pub eight_word : (w x y z p t : ℕ) → w ≤ 99 → x ≤ 99 → y ≤ 99 → z ≤ 99
    → p ≡ w + 65536 * (x + 65536 * (y + 65536 * z)) → t ≡ w / 10 + 65536 * (x / 10 + 65536 * (y / 10 + 65536 * (z / 10)))
    → 3472328296227680304 + 256 * p ≡ 2559 * t + word_of ((48 + w / 10) ∷ (48 + w % 10) ∷ (48 + x / 10) ∷ (48 + x % 10) ∷ (48 + y / 10) ∷ (48 + y % 10) ∷ (48 + z / 10) ∷ (48 + z % 10) ∷ [])
unfolding word_of
eight_word w x y z p t hw hx hy hz ep et = omega (arith, ep, et, pair_word w hw, pair_word x hx, pair_word y hy, pair_word z hz)

pub pairs_sum : (w x y z s t : ℕ) → s ≡ w + 65536 * x → t ≡ y + 65536 * z → s + 4294967296 * t ≡ w + 65536 * (x + 65536 * (y + 65536 * z))
pairs_sum w x y z s t es et = omega (arith, es, et)

-- a level's five digits and a line feed
pub five_word : (d n : ℕ) (l : List ℕ) → length l ≡ 4 → word_of (d ∷ (l ++ (n ∷ []))) ≡ d + 256 * word_of l + 1099511627776 * n
unfolding word_of
five_word d n (a ∷ b ∷ c ∷ e ∷ []) h = omega arith
five_word d n [] h = absurd (omega arith)
five_word d n (a ∷ []) h = absurd (omega arith)
five_word d n (a ∷ b ∷ []) h = absurd (omega arith)
five_word d n (a ∷ b ∷ c ∷ []) h = absurd (omega arith)
five_word d n (a ∷ b ∷ c ∷ e ∷ f ∷ l) h = absurd (omega arith)
