-- Numbers of n bytes: how long they are, and how they are written and read byte by byte. Assumes nothing.
use mathlib.Core.Path.{◌≡◌, refl, sym, ap, ◌∙◌}
use mathlib.Core.List.{List, [], ◌∷◌}
use Prim.Native.Nat.{ℕ, zero, suc, ◌+◌, ◌*◌, ◌-◌, ◌^◌, ◌≤◌, ◌<◌}
use native.Mathlib.Nat.{mul-zero, mul-suc, pow-suc, pow-le-pow_right}
use native.Mathlib.Numerals.{add-one}
use native.Mathlib.Omega.{arith}
use lib.ListN.{length, get_or, set, drop, length-append, drop_of_length-le}
use lib.Seq.{sets, drop-cons}
use Rattle.text_print.proofs.StoreLaws.{sets_append}
use Rattle.c_bytes.specs.Fields.{low, high, byte_of}
use Rattle.c_bytes.specs.Numbers.{wide_bytes, wides_bytes, wide_of}

pub wide_size : (n x : ℕ) → length (wide_bytes n x) ≡ n
unfolding wide_bytes
wide_size zero x = refl
wide_size (suc n) x = ap suc (wide_size n (high x))

pub wides_size : (n : ℕ) (xs : List ℕ) → length (wides_bytes n xs) ≡ n * length xs
unfolding wides_bytes
wides_size n [] = sym (mul-zero n)
wides_size n (x ∷ xs) =
    length-append (wide_bytes n x) (wides_bytes n xs)
    ∙ omega (arith, wide_size n x, wides_size n xs, mul-suc n (length xs))

-- WRITTEN

-- a byte stored, and those behind it
pub wide_step :
    (b : List ℕ) (at i n x v : ℕ)
    → i < n
    → v ≡ low x
    → sets (set b (at + i) v) (at + (i + 1)) (wide_bytes (n - (i + 1)) (high x)) ≡ sets b (at + i) (wide_bytes (n - i) x)
unfolding wide_bytes
wide_step b at i n x v h e =
    let more : n - i ≡ suc (n - (i + 1)) = omega arith in
    let next : at + (i + 1) ≡ suc (at + i) = omega arith in
    rw (more, next, e)

pub wide_done : (b : List ℕ) (at i n x : ℕ) → n ≤ i → sets b (at + i) (wide_bytes (n - i) x) ≡ b
unfolding wide_bytes
wide_done b at i n x h = let none : n - i ≡ 0 = omega arith in rw none

-- a number stored, and those behind it
pub wides_step :
    (n : ℕ) (b after xs : List ℕ) (place next k : ℕ)
    → k < length xs
    → next ≡ place + n
    → after ≡ sets b place (wide_bytes n (get_or xs k 0))
    → sets after next (wides_bytes n (drop (k + 1) xs)) ≡ sets b place (wides_bytes n (drop k xs))
unfolding wides_bytes
wides_step n b after xs place next k h p e =
    rw (add-one, drop-cons xs k 0 h, p, e)
    (ap (λ (i : ℕ). sets (sets b place (wide_bytes n (get_or xs k 0))) (place + i) (wides_bytes n (drop (suc k) xs))) (sym (wide_size n (get_or xs k 0)))
    ∙ sets_append (wide_bytes n (get_or xs k 0)) (wides_bytes n (drop (suc k) xs)) b place)

pub wides_done : (n : ℕ) (b xs : List ℕ) (place k : ℕ) → length xs ≤ k → sets b place (wides_bytes n (drop k xs)) ≡ b
unfolding wides_bytes
wides_done n b xs place k h = rw (drop_of_length-le xs h)

-- READ

-- a byte, and those behind it
pub wide_more : (b : List ℕ) (at i n : ℕ) → 0 < i → i ≤ n
    → byte_of b (at + (i - 1)) + 256 * wide_of b (at + i) (n - i) ≡ wide_of b (at + (i - 1)) (n - (i - 1))
unfolding wide_of
wide_more b at i n h l =
    let more : n - (i - 1) ≡ suc (n - i) = omega arith in
    let next : at + (i - 1) + 1 ≡ at + i = omega arith in
    rw (more, next)

pub wide_none : (b : List ℕ) (at n : ℕ) → wide_of b at (n - n) ≡ 0
unfolding wide_of
wide_none b at n = let none : n - n ≡ 0 = omega arith in rw none

-- a byte more, 256 times as many numbers
pub room_more : (x r k : ℕ) → x < 256 → r < 256 ^ k → x + 256 * r < 256 ^ suc k
room_more x r k h l = omega (arith, pow-suc 256 k)

-- seven bytes, and another one, are below 2 ^ 64
pub room : (x r k : ℕ) → x < 256 → k ≤ 7 → r < 256 ^ k → x + 256 * r < 2 ^ 64
room x r k h l f = let most : 256 ^ k ≤ 256 ^ 7 = pow-le-pow_right (omega arith) l in omega arith
