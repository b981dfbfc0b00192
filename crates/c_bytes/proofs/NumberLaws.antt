-- Numbers written as bytes are read back, and bytes that were read are written back. Assumes nothing but that bytes are below 256.
use mathlib.Core.Path.{◌≡◌, refl, sym, ap, ◌∙◌}
use mathlib.Core.List.{List, [], ◌∷◌, ◌++◌, append_assoc, append-nil}
use Prim.Native.Nat.{ℕ, zero, suc, ◌+◌, ◌*◌, ◌^◌, ◌≤◌, ◌<◌}
use native.Mathlib.Nat.{add_assoc, mul-zero, mul-suc, pow-zero, pow-suc, one-le-pow}
use native.Mathlib.Numerals.{add-one}
use native.Mathlib.Omega.{arith}
use lib.ListN.{length, get_or, take, drop, take-append-drop}
use lib.Seq.{drop-cons, drop-drop, take-add, get_or-append-add}
use Rattle.c_bytes.specs.Fields.{low, high, byte_of}
use Rattle.c_bytes.specs.Numbers.{wide_bytes, wides_bytes, wide_of, wides_of}
use Rattle.c_bytes.proofs.WideLaws.{wide_size, room_more}

-- bytes before the place that is read
past : (u b : List ℕ) (at n : ℕ) → wide_of (u ++ b) (length u + at) n ≡ wide_of b at n
unfolding wide_of
past u b at zero = refl
past u b at (suc n) = rw (get_or-append-add u b at 0, add_assoc (length u) at 1, past u b (at + 1) n)

pub wide_past : (u b : List ℕ) (k at n : ℕ) → length u ≡ k → wide_of (u ++ b) (k + at) n ≡ wide_of b at n
wide_past u b k at n e = rw (← e) (past u b at n)

pub wides_past : (u b : List ℕ) (k at n m : ℕ) → length u ≡ k → wides_of (u ++ b) (k + at) n m ≡ wides_of b at n m
unfolding wides_of
wides_past u b k at n zero e = refl
wides_past u b k at n (suc m) e = rw (wide_past u b k at n e, add_assoc k at n, wides_past u b k (at + n) n m e)

-- a number of n bytes
pub wide_read : (n x : ℕ) (b : List ℕ) → x < 256 ^ n → wide_of (wide_bytes n x ++ b) 0 n ≡ x
unfolding wide_bytes wide_of
wide_read zero x b h = omega (arith, pow-zero 256)
wide_read (suc n) x b h =
    let less : high x < 256 ^ n = omega (arith, pow-suc 256 n) in
    let rest = wide_past (low x ∷ []) (wide_bytes n (high x) ++ b) 1 0 n refl ∙ wide_read n (high x) b less in
    ap (λ (y : ℕ). low x + 256 * y) rest ∙ omega arith

-- numbers of n bytes each
pub wides_read : (n : ℕ) (xs b : List ℕ) → ((i : ℕ) → get_or xs i 0 < 256 ^ n) → wides_of (wides_bytes n xs ++ b) 0 n (length xs) ≡ xs
unfolding wides_bytes wides_of
wides_read n [] b h = refl
wides_read n (x ∷ xs) b h =
    let behind = wides_bytes n xs ++ b in
    let place : 0 + n ≡ n + 0 = omega arith in
    let rest =
    ap (λ (i : ℕ). wides_of (wide_bytes n x ++ behind) i n (length xs)) place
    ∙ wides_past (wide_bytes n x) behind n 0 n (length xs) (wide_size n x)
    ∙ wides_read n xs b (λ i. h (suc i)) in
    let here : wides_of (wide_bytes n x ++ behind) 0 n (suc (length xs)) ≡ x ∷ xs = rw (wide_read n x behind (h 0), rest) in
    ap (λ (l : List ℕ). wides_of l 0 n (suc (length xs))) (append_assoc (wide_bytes n x) (wides_bytes n xs) b) ∙ here

-- n bytes each, the last
pub wides_last : (n m : ℕ) (xs : List ℕ) → length xs ≡ m → ((i : ℕ) → get_or xs i 0 < 256 ^ n) → wides_of (wides_bytes n xs) 0 n m ≡ xs
wides_last n m xs e h =
    ap (λ (l : List ℕ). wides_of l 0 n m) (sym (append-nil (wides_bytes n xs)))
    ∙ ap (wides_of (wides_bytes n xs ++ []) 0 n) (sym e)
    ∙ wides_read n xs [] h

pub widths : (b : List ℕ) (at n k : ℕ) → length (wides_of b at n k) ≡ k
unfolding wides_of
widths b at n zero = refl
widths b at n (suc k) = ap suc (widths b (at + n) n k)

-- a part, and what is behind it
pub cut : (b : List ℕ) (at n : ℕ) → drop at b ≡ take n (drop at b) ++ drop (at + n) b
cut b at n = sym (take-append-drop n (drop at b)) ∙ ap (λ (l : List ℕ). take n (drop at b) ++ l) (drop-drop n at b)

module _ (b : List ℕ) (bytes : (i : ℕ) → byte_of b i ≤ 255) where
  -- what was read has its types' ranges
  pub wide_most : (at n : ℕ) → wide_of b at n < 256 ^ n
  unfolding wide_of
  wide_most at zero = omega (arith, pow-zero 256)
  wide_most at (suc n) = room_more (byte_of b at) (wide_of b (at + 1) n) n (omega (arith, bytes at)) (wide_most (at + 1) n)

  pub wides_most : (at n k i : ℕ) → get_or (wides_of b at n k) i 0 < 256 ^ n
  unfolding wides_of
  wides_most at n zero i = one-le-pow n 256 (omega arith)
  wides_most at n (suc k) zero = wide_most at n
  wides_most at n (suc k) (suc i) = wides_most (at + n) n k i

  -- what was read is written
  pub wide_kept : (at n : ℕ) → at + n ≤ length b → wide_bytes n (wide_of b at n) ≡ take n (drop at b)
  unfolding wide_bytes wide_of
  wide_kept at zero h = refl
  wide_kept at (suc n) h =
      let first : low (byte_of b at + 256 * wide_of b (at + 1) n) ≡ byte_of b at = omega (arith, bytes at) in
      let rest : high (byte_of b at + 256 * wide_of b (at + 1) n) ≡ wide_of b (at + 1) n = omega (arith, bytes at) in
      rw (first, rest, drop-cons b at 0 (omega arith), ← add-one at) (ap (λ (l : List ℕ). byte_of b at ∷ l) (wide_kept (at + 1) n (omega arith)))

  pub wides_kept : (at n k : ℕ) → at + n * k ≤ length b → wides_bytes n (wides_of b at n k) ≡ take (n * k) (drop at b)
  unfolding wides_bytes wides_of
  wides_kept at n zero h = rw mul-zero
  wides_kept at n (suc k) h =
      let size : n * suc k ≡ n + n * k = omega (arith, mul-suc n k) in
      rw (size, take-add n (n * k) (drop at b), drop-drop n at b, wide_kept at n (omega arith), wides_kept (at + n) n k (omega arith))
