-- Digits of numbers, four and eight at a time. Assumes nothing.
use Prim.Native.Nat.{ℕ, zero, suc, ◌+◌, ◌-◌, ◌*◌, ◌/◌, ◌%◌, ◌^◌, ◌≤◌, ◌<◌}
use mathlib.Core.Path.{◌≡◌, refl, sym, ap, ap₂, ◌∙◌}
use mathlib.Core.Bool.{Bool, true, false}
use mathlib.Core.List.{List, [], ◌∷◌, ◌++◌, append_assoc}
use native.Mathlib.Nat.{pow-suc, mul-add-mod_self_right}
use native.Mathlib.Omega.{arith}
use lib.Dec.{ltb}
use lib.ListN.{length, drop, length-append}
use lib.Seq.{drop-append-le, drop-append_seam, drop-length}
use borrow.Author.Tests.{lt-ltb, le-ltb, ltb-true, ltb-false}
use Rattle.arith.specs.Pick.{pick}
use Rattle.text.specs.Decimal.{digits_of, decimal_text}
use Rattle.text_print.specs.Printed.{digits_in}
use Rattle.play_levels.specs.Words.{word_of, Hundreds, tens_of}
use Rattle.play_text.proofs.TextLaws.{digits_few}
use Rattle.text_print.proofs.DecimalLaws.{length_digits, decimal_shown, decimal_long}
use Rattle.play_levels.proofs.WordLaws.{Bytes, bytes_append, word_drop, five_word, pairs_sum, hundreds_four, tens_of_four, tens_most, eight_word}

-- digits are bytes
pub digit_bytes : (k n : ℕ) → Bytes (digits_in k n)
unfolding digits_in Bytes
digit_bytes zero n = tt
digit_bytes (suc k) n = bytes_append (digits_in k (n / 10)) ((48 + n % 10) ∷ []) (digit_bytes k (n / 10)) (omega arith, tt)

-- the last of more digits
pub digits_drop : (j k n : ℕ) → drop j (digits_in (j + k) n) ≡ digits_in k n
unfolding digits_in
digits_drop j zero n =
    let e : j + 0 ≡ length (digits_in (j + 0) n) = sym (length_digits (j + 0) n) in
    let f : j ≡ length (digits_in (j + 0) n) = omega (arith, e) in
    ap (λ (i : ℕ). drop i (digits_in (j + 0) n)) f ∙ drop-length (digits_in (j + 0) n)
digits_drop j (suc k) n =
    let e : j + suc k ≡ suc (j + k) = omega arith in
    ap (λ (i : ℕ). drop j (digits_in i n)) e
    ∙ drop-append-le j (digits_in (j + k) (n / 10)) ((48 + n % 10) ∷ []) (omega (arith, length_digits (j + k) (n / 10)))
    ∙ ap (λ (l : List ℕ). l ++ ((48 + n % 10) ∷ [])) (digits_drop j k (n / 10))

-- FOUR DIGITS

tens_of_lem : (n : ℕ) → n % 100 / 10 ≡ n / 10 % 10
tens_of_lem n =
    let e : n / 10 ≡ n / 100 * 10 + n % 100 / 10 = omega arith in
    let few : n % 100 / 10 % 10 ≡ n % 100 / 10 = omega arith in
    sym few ∙ sym (ap (λ (k : ℕ). k % 10) e ∙ mul-add-mod_self_right (n / 100) 10 (n % 100 / 10))

ones_of : (n : ℕ) → n % 100 % 10 ≡ n % 10
ones_of n = omega arith

hundreds_of : (n : ℕ) → n / 10 / 10 ≡ n / 100
hundreds_of n = omega arith

few_thousands : (n : ℕ) → n ≤ 9999 → n / 100 / 10 % 10 ≡ n / 100 / 10
few_thousands n h = omega arith

-- two of the hundreds and two of the rest
pub four_digits : (n : ℕ) → n ≤ 9999 → digits_in 4 n ≡ (48 + n / 100 / 10) ∷ (48 + n / 100 % 10) ∷ (48 + n % 100 / 10) ∷ (48 + n % 100 % 10) ∷ []
unfolding digits_in
four_digits n h = rw (tens_of_lem n, ones_of n, hundreds_of n, few_thousands n h) refl

-- eight of two numbers, from the sum of their pairs and the tens of these
module _ (a b s t : ℕ) (ha : a ≤ 9999) (hb : b ≤ 9999) (es : s ≡ a / 100 + 65536 * (a % 100)) (et : t ≡ b / 100 + 65536 * (b % 100)) where
  first_few : a / 100 ≤ 99
  first_few = omega arith

  second_few : a % 100 ≤ 99
  second_few = omega arith

  third_few : b / 100 ≤ 99
  third_few = omega arith

  fourth_few : b % 100 ≤ 99
  fourth_few = omega arith

  pairs : s + 4294967296 * t ≡ a / 100 + 65536 * (a % 100 + 65536 * (b / 100 + 65536 * (b % 100)))
  pairs = pairs_sum (a / 100) (a % 100) (b / 100) (b % 100) s t es et

  pub eight_pairs : Hundreds 4 (s + 4294967296 * t)
  eight_pairs = rw pairs (hundreds_four (a / 100) (a % 100) (b / 100) (b % 100) first_few second_few third_few fourth_few)

  tens : (u : ℕ) → u ≡ tens_of 4 (s + 4294967296 * t) → u ≡ a / 100 / 10 + 65536 * (a % 100 / 10 + 65536 * (b / 100 / 10 + 65536 * (b % 100 / 10)))
  tens u e = e ∙ ap (tens_of 4) pairs ∙ tens_of_four (a / 100) (a % 100) (b / 100) (b % 100) first_few second_few third_few fourth_few

  pub eight_tens : (u : ℕ) → u ≡ tens_of 4 (s + 4294967296 * t) → u ≤ 2533313445691401
  eight_tens u e = tens_most (a / 100) (a % 100) (b / 100) (b % 100) u first_few second_few third_few fourth_few (tens u e)

  pub eight_digits : (u : ℕ) → u ≡ tens_of 4 (s + 4294967296 * t)
      → 3472328296227680304 + 256 * (s + 4294967296 * t) ≡ 2559 * u + word_of (digits_in 4 a ++ digits_in 4 b)
  eight_digits u e =
      eight_word (a / 100) (a % 100) (b / 100) (b % 100) (s + 4294967296 * t) u first_few second_few third_few fourth_few pairs (tens u e)
      ∙ ap (λ (l : List ℕ). 2559 * u + word_of l) (sym (ap₂ (λ (x y : List ℕ). x ++ y) (four_digits a ha) (four_digits b hb)))

snoc_four : (l : List ℕ) (a b c d : ℕ) → (((l ++ (a ∷ [])) ++ (b ∷ [])) ++ (c ∷ [])) ++ (d ∷ []) ≡ l ++ (a ∷ b ∷ c ∷ d ∷ [])
snoc_four l a b c d =
    append_assoc ((l ++ (a ∷ [])) ++ (b ∷ [])) (c ∷ []) (d ∷ [])
    ∙ append_assoc (l ++ (a ∷ [])) (b ∷ []) (c ∷ d ∷ [])
    ∙ append_assoc l (a ∷ []) (b ∷ c ∷ d ∷ [])

mod_ten : (q x n : ℕ) → n ≡ q * 10 + x → x % 10 ≡ n % 10
mod_ten q x n e = sym (ap (λ (k : ℕ). k % 10) e ∙ mul-add-mod_self_right q 10 x)

-- of a larger number, the last four
low_digits : (n : ℕ) → digits_in 4 (n % 10000) ≡ (48 + n / 10 / 10 / 10 % 10) ∷ (48 + n / 10 / 10 % 10) ∷ (48 + n / 10 % 10) ∷ (48 + n % 10) ∷ []
unfolding digits_in
low_digits n =
    let d : n % 10000 % 10 ≡ n % 10 = omega arith in
    let c : n % 10000 / 10 % 10 ≡ n / 10 % 10 = mod_ten (n / 10000 * 100) _ _ (omega arith) in
    let b : n % 10000 / 10 / 10 % 10 ≡ n / 10 / 10 % 10 = mod_ten (n / 10000 * 10) _ _ (omega arith) in
    let a : n % 10000 / 10 / 10 / 10 % 10 ≡ n / 10 / 10 / 10 % 10 = mod_ten (n / 10000) _ _ (omega arith) in
    rw (a, b, c, d) refl

tenth_four : (n : ℕ) → n / 10 / 10 / 10 / 10 ≡ n / 10000
tenth_four n = omega arith

pub digits_split : (k n : ℕ) → digits_in (suc (suc (suc (suc k)))) n ≡ digits_in k (n / 10000) ++ digits_in 4 (n % 10000)
unfolding digits_in
digits_split k n =
    snoc_four (digits_in k (n / 10 / 10 / 10 / 10)) _ _ _ _
    ∙ ap₂ (λ (x : ℕ) (l : List ℕ). digits_in k x ++ l) (tenth_four n) (sym (low_digits n))

-- DECIMALS

-- no digit more where these are enough
enough : (k n : ℕ) → n < 10 ^ suc k → digits_of (suc k) n ≡ digits_of (suc (suc k)) n
unfolding digits_of
enough zero n h = let q : n < 10 = h in rw (lt-ltb _ _ q) refl
enough (suc k) n h =
    let less : n / 10 < 10 ^ suc k = omega (arith, pow-suc 10 (suc k)) in
    ap (λ (l : List ℕ). pick (ltb n 10) ((48 + n) ∷ []) (l ++ ((48 + n % 10) ∷ []))) (enough k (n / 10) less)

few_high : (n : ℕ) → n ≤ 999999 → digits_of 6 n ≡ decimal_text n
unfolding decimal_text
few_high n h =
    let a : n < 10 ^ 6 = (let u : n < 1000000 = omega arith in u) in
    let b : n < 10 ^ 7 = (let u : n < 10000000 = omega arith in u) in
    let c : n < 10 ^ 8 = (let u : n < 100000000 = omega arith in u) in
    let d : n < 10 ^ 9 = (let u : n < 1000000000 = omega arith in u) in
    enough 5 n a ∙ enough 6 n b ∙ enough 7 n c ∙ enough 8 n d

pub high_size : (n : ℕ) → n ≤ 999999 → length (decimal_text n) ≤ 6
high_size n h = omega (arith, ap length (few_high n h), digits_few 6 n)

-- a decimal has a digit, and its digits are bytes
pub decimal_some : (n : ℕ) → 1 ≤ length (decimal_text n)
unfolding decimal_text digits_of
decimal_some n = by (ltb n 10)
  where
    by : (t : Bool) → 1 ≤ length (pick t ((48 + n) ∷ []) (digits_of 9 (n / 10) ++ ((48 + n % 10) ∷ [])))
    by true = omega arith
    by false = rw length-append (omega arith)

of_bytes : (k n : ℕ) → Bytes (digits_of k n)
unfolding digits_of Bytes
of_bytes zero n = tt
of_bytes (suc k) n = by (ltb n 10) refl (of_bytes k (n / 10))
  where
    by : (t : Bool) → ltb n 10 ≡ t → Bytes (digits_of k (n / 10)) → Bytes (pick t ((48 + n) ∷ []) (digits_of k (n / 10) ++ ((48 + n % 10) ∷ [])))
    by true e b = let h = ltb-true n 10 e in (omega arith, tt)
    by false e b = bytes_append (digits_of k (n / 10)) ((48 + n % 10) ∷ []) b (omega arith, tt)

pub decimal_bytes : (n : ℕ) → Bytes (decimal_text n)
unfolding decimal_text
decimal_bytes n = of_bytes 10 n

one_more : (k n : ℕ) → 10 ≤ n → digits_of (suc k) n ≡ digits_of k (n / 10) ++ ((48 + n % 10) ∷ [])
unfolding digits_of
one_more k n h = rw (le-ltb _ _ h) refl

-- a time's decimal is that of what stands before its last four digits, and these
pub decimal_split : (t : ℕ) → 10000 ≤ t → t ≤ 9999999999 → decimal_text t ≡ decimal_text (t / 10000) ++ digits_in 4 (t % 10000)
unfolding decimal_text
decimal_split t l h =
    one_more 9 t (omega arith)
    ∙ ap (λ (d : List ℕ). d ++ ((48 + t % 10) ∷ [])) (one_more 8 (t / 10) (omega arith)
    ∙ ap (λ (d : List ℕ). d ++ ((48 + t / 10 % 10) ∷ [])) (one_more 7 (t / 10 / 10) (omega arith)
    ∙ ap (λ (d : List ℕ). d ++ ((48 + t / 10 / 10 % 10) ∷ [])) (one_more 6 (t / 10 / 10 / 10) (omega arith))))
    ∙ snoc_four (digits_of 6 (t / 10 / 10 / 10 / 10)) _ _ _ _
    ∙ ap₂ (λ (x : ℕ) (l : List ℕ). digits_of 6 x ++ l) (tenth_four t) (sym (low_digits t))
    ∙ ap (λ (d : List ℕ). d ++ digits_in 4 (t % 10000)) (few_high (t / 10000) (omega arith))

-- a decimal of no more than eight digits is the last of eight
pub decimal_eight : (n k : ℕ) → decimal_text n ≡ digits_in k n → k ≤ 8 → decimal_text n ≡ drop (8 - k) (digits_in 4 (n / 10000) ++ digits_in 4 (n % 10000))
decimal_eight n k e h =
    let s : 8 - k + k ≡ 8 = omega arith in
    e ∙ sym (digits_drop (8 - k) k n) ∙ ap (λ (i : ℕ). drop (8 - k) (digits_in i n)) s ∙ ap (drop (8 - k)) (digits_split 4 n)

-- LEVELS

-- the digits that a number of five or fewer doesn't have
abbrev lacks : ℕ → ℕ
lacks n = pick (ltb n 10000) 1 0 + pick (ltb n 1000) 1 0 + pick (ltb n 100) 1 0 + pick (ltb n 10) 1 0

at_width : (n r w : ℕ) → r + w ≡ 4 → decimal_text n ≡ digits_in (suc w) n → (r + length (decimal_text n) ≡ 5) × (decimal_text n ≡ digits_in (5 - r) n) × (r ≤ 4)
at_width n r w s e =
    let k : suc w ≡ 5 - r = omega arith in
    (omega (arith, s, decimal_long n (suc w) e), e ∙ ap (λ (i : ℕ). digits_in i n) k, omega arith)

pub lacking : (n r : ℕ) → n ≤ 65535 → r ≡ lacks n → (r + length (decimal_text n) ≡ 5) × (decimal_text n ≡ digits_in (5 - r) n) × (r ≤ 4)
lacking n r h e = by (ltb n 10) refl (ltb n 100) refl (ltb n 1000) refl (ltb n 10000) refl
  where
    is : (w : ℕ) → lacks n + w ≡ 4 → decimal_text n ≡ digits_in (suc w) n → (r + length (decimal_text n) ≡ 5) × (decimal_text n ≡ digits_in (5 - r) n) × (r ≤ 4)
    is w s d = at_width n r w (ap (λ (k : ℕ). k + w) e ∙ s) d

    by : (a : Bool) → ltb n 10 ≡ a → (b : Bool) → ltb n 100 ≡ b → (c : Bool) → ltb n 1000 ≡ c → (d : Bool) → ltb n 10000 ≡ d
        → (r + length (decimal_text n) ≡ 5) × (decimal_text n ≡ digits_in (5 - r) n) × (r ≤ 4)
    by true p b q c u d v =
        let l = ltb-true n 10 p in
        is 0 (rw (lt-ltb n 10 l, lt-ltb n 100 (omega arith), lt-ltb n 1000 (omega arith), lt-ltb n 10000 (omega arith)) refl) (decimal_shown 0 n (omega arith) (λ z. absurd (omega arith)) (λ z. l))
    by false p true q c u d v =
        let l = ltb-true n 100 q in
        let g = ltb-false n 10 p in
        is 1 (rw (p, lt-ltb n 100 l, lt-ltb n 1000 (omega arith), lt-ltb n 10000 (omega arith)) refl) (decimal_shown 1 n (omega arith) (λ z. g) (λ z. l))
    by false p false q true u d v =
        let l = ltb-true n 1000 u in
        let g = ltb-false n 100 q in
        is 2 (rw (p, q, lt-ltb n 1000 l, lt-ltb n 10000 (omega arith)) refl) (decimal_shown 2 n (omega arith) (λ z. g) (λ z. l))
    by false p false q false u true v =
        let l = ltb-true n 10000 v in
        let g = ltb-false n 1000 u in
        is 3 (rw (p, q, u, lt-ltb n 10000 l) refl) (decimal_shown 3 n (omega arith) (λ z. g) (λ z. l))
    by false p false q false u false v =
        let g = ltb-false n 10000 v in
        let l : n < 100000 = omega arith in
        is 4 (rw (p, q, u, v) refl) (decimal_shown 4 n (omega arith) (λ z. g) (λ z. l))

-- of five digits the first, and the last four
pub digits_five : (n : ℕ) → n ≤ 65535 → digits_in 5 n ≡ (48 + n / 10000) ∷ digits_in 4 n
unfolding digits_in
digits_five n h =
    let first : n / 10000 % 10 ≡ n / 10000 = omega arith in
    digits_split 1 n ∙ (rw first (ap (λ (l : List ℕ). (48 + n / 10000) ∷ l) (sym (digits_split 0 n))))

pub decimal_five : (n r : ℕ) → n ≤ 65535 → decimal_text n ≡ digits_in (5 - r) n → r ≤ 4 → decimal_text n ≡ drop r ((48 + n / 10000) ∷ digits_in 4 n)
decimal_five n r h e k =
    let s : r + (5 - r) ≡ 5 = omega arith in
    e ∙ sym (digits_drop r (5 - r) n) ∙ ap (λ (i : ℕ). drop r (digits_in i n)) s ∙ ap (drop r) (digits_five n h)

-- of five digits and a line feed as a word, those are dropped that a level doesn't have
pub level_digits : (n w r : ℕ) → w ≡ word_of (digits_in 4 n) → n ≤ 65535 → decimal_text n ≡ digits_in (5 - r) n → r ≤ 4
    → (48 + n / 10000 + 256 * w + 10995116277760) / 2 ^ (8 * r) ≡ word_of (decimal_text n ++ (10 ∷ []))
unfolding Bytes
level_digits n w r e h d k =
    let five : List ℕ = (48 + n / 10000) ∷ digits_in 4 n in
    let five_bytes : Bytes five = (omega arith, digit_bytes 4 n) in
    let whole : 48 + n / 10000 + 256 * w + 10995116277760 ≡ word_of (five ++ (10 ∷ [])) = omega (arith, e, five_word (48 + n / 10000) 10 (digits_in 4 n) (length_digits 4 n)) in
    ap (λ (x : ℕ). x / 2 ^ (8 * r)) whole
    ∙ word_drop r (five ++ (10 ∷ [])) (bytes_append five (10 ∷ []) five_bytes (omega arith, tt))
    ∙ ap word_of (drop-append-le r five (10 ∷ []) (omega (arith, k, length_digits 4 n)) ∙ ap (λ (l : List ℕ). l ++ (10 ∷ [])) (sym (decimal_five n r h d k)))

four_last : (n : ℕ) → digits_in 4 n ≡ digits_in 4 (n % 10000)
unfolding digits_in
four_last n = digits_split 0 n

-- the second four digits of eight, which may be the last of more
pub second_four : (w a n : ℕ) → w ≡ word_of (digits_in 4 a ++ digits_in 4 (n % 10000)) → w / 4294967296 ≡ word_of (digits_in 4 n)
second_four w a n e =
    ap (λ (x : ℕ). x / 4294967296) e
    ∙ word_drop 4 (digits_in 4 a ++ digits_in 4 (n % 10000)) (bytes_append (digits_in 4 a) (digits_in 4 (n % 10000)) (digit_bytes 4 a) (digit_bytes 4 (n % 10000)))
    ∙ ap word_of
    (ap (λ (k : ℕ). drop k (digits_in 4 a ++ digits_in 4 (n % 10000))) (sym (length_digits 4 a))
    ∙ drop-append_seam (digits_in 4 a) (digits_in 4 (n % 10000))
    ∙ sym (four_last n))

pub four_most : (n : ℕ) → word_of (digits_in 4 n) ≤ 4294967295
unfolding word_of digits_in
four_most n = omega arith
