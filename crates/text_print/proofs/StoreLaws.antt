-- Laws of a text stored from a place on. Assumes nothing.
use Prim.Native.Nat.{ℕ, suc, ◌+◌, ◌*◌, ◌/◌, ◌%◌, ◌≤◌, ◌<◌}
use mathlib.Core.Path.{◌≡◌, refl, sym, ap, ◌∙◌}
use mathlib.Core.List.{List, [], ◌∷◌, ◌++◌}
use native.Mathlib.Nat.{add-zero, mul-add-mod_self_right}
use native.Mathlib.Omega.{arith}
use borrow.Author.Tests.{le-leb, lt-leb, leb-true, leb-false}
use lib.Dec.{leb}
use mathlib.Core.Bool.{Bool, true, false}
use lib.ListN.{length, set, drop, drop_of_length-le}
use lib.Seq.{sets, set_comm}
use Rattle.text.specs.Hex.{hex_text}
use Rattle.text_print.specs.Printed.{printed, placed, digits_in}
use Rattle.text_print.proofs.DecimalLaws.{length_digits, digits_more}

-- a store on no byte of a text, before or after it
pub sets_set : (vs l : List ℕ) (i p v : ℕ) → ((k : ℕ) → k < length vs → i + k ≡ p → ⊥) → set (sets l i vs) p v ≡ sets (set l p v) i vs
sets_set [] l i p v h = refl
sets_set (w ∷ vs) l i p v h =
    let apart : i ≡ p → ⊥ = λ e. h 0 (omega arith) (omega (arith, e)) in
    sets_set vs (set l i w) (suc i) p v (λ k m e. h (suc k) (omega (arith, m)) (omega (arith, e))) ∙ ap (λ (m : List ℕ). sets m (suc i) vs) (set_comm l i p w v apart)

-- a text, and another one behind it
pub sets_append : (u v l : List ℕ) (i : ℕ) → sets (sets l i u) (i + length u) v ≡ sets l i (u ++ v)
sets_append [] v l i = rw add-zero
sets_append (w ∷ u) v l i =
    let e : i + suc (length u) ≡ suc i + length u = omega arith in
    rw e (sets_append u v (set l i w) (suc i))

-- a text with one more byte
sets_last : (u l : List ℕ) (i k v : ℕ) → length u ≡ k → sets l i (u ++ (v ∷ [])) ≡ sets (set l (i + k) v) i u
sets_last u l i k v e =
    sym (sets_append u (v ∷ []) l i)
    ∙ ap (λ (n : ℕ). set (sets l i u) (i + n) v) e
    ∙ sets_set u l i (i + k) v (λ j m f. omega (arith, m, f, e))

module _ (out : List ℕ) (at : ℕ) (text : List ℕ) (k : ℕ) (long : length text ≡ k) where
  -- a text that fits is written
  pub written : at + k ≤ length out → (after : List ℕ) → after ≡ sets out at text → (at + k ≡ placed out at text) × (after ≡ printed out at text)
  unfolding placed printed
  written h after e =
      let room : at + length text ≤ length out = omega arith in
      rw (le-leb _ _ room) (ap (λ (n : ℕ). at + n) (sym long), e)

  -- one that doesn't is not
  pub kept : length out < at + k → (at ≡ placed out at text) × (out ≡ printed out at text)
  unfolding placed printed
  kept h =
      let room : length out < at + length text = omega arith in
      rw (lt-leb _ _ room) (refl, refl)

  -- the same, as the test says it
  pub written_if : (t : Bool) → t ≡ leb (at + k) (length out) → t ≡ true → (after : List ℕ) → after ≡ sets out at text → (at + k ≡ placed out at text) × (after ≡ printed out at text)
  written_if t e y after f = written (leb-true _ _ (sym e ∙ y)) after f

  pub kept_if : (t : Bool) → t ≡ leb (at + k) (length out) → t ≡ false → (at ≡ placed out at text) × (out ≡ printed out at text)
  kept_if t e y = kept (leb-false _ _ (sym e ∙ y))

-- a text byte by byte from its front, at its end
pub copy_end : (out text : List ℕ) (at i : ℕ) → length text ≤ i → sets out (at + i) (drop i text) ≡ out
copy_end out text at i h = rw (drop_of_length-le text h)

-- digits from their back
fill_step : (out : List ℕ) (at i j n d : ℕ) → i ≡ suc j → d ≡ 48 + n % 10
    → sets (set out (at + j) d) at (digits_in j (n / 10)) ≡ sets out at (digits_in i n)
fill_step out at i j n d e f =
    rw (e, f, digits_more) (sym (sets_last (digits_in j (n / 10)) out at j (48 + n % 10) (length_digits j (n / 10))))

pub fill_end : (out : List ℕ) (at i n : ℕ) → i ≡ 0 → sets out at (digits_in i n) ≡ out
unfolding digits_in
fill_end out at i n e = rw e

-- two digits at once, and one or none
pub fill_pair : (out : List ℕ) (at i j n : ℕ) → i ≡ suc (suc j)
    → sets (set (set out (at + j + 1) (48 + n % 100 % 10)) (at + j) (48 + n % 100 / 10 % 10)) at (digits_in j (n / 100)) ≡ sets out at (digits_in i n)
fill_pair out at i j n e =
    let low : n % 100 % 10 ≡ n % 10 = omega arith in
    let tens : n / 10 ≡ n / 100 * 10 + n % 100 / 10 = omega arith in
    let high : n % 100 / 10 % 10 ≡ n / 10 % 10 =
    sym (ap (λ (k : ℕ). k % 10) tens ∙ mul-add-mod_self_right (n / 100) 10 (n % 100 / 10))
    in
    let rest : n / 100 ≡ n / 10 / 10 = omega arith in
    let place : at + j + 1 ≡ at + suc j = omega arith in
    rw (low, high, rest, place)
    (fill_step (set out (at + suc j) (48 + n % 10)) at (suc j) j (n / 10) (48 + n / 10 % 10) refl refl
    ∙ fill_step out at i (suc j) n (48 + n % 10) e refl)

pub fill_single : (out : List ℕ) (at i n d : ℕ) → i ≡ 1 → d ≡ 48 + n % 10 → set out at d ≡ sets out at (digits_in i n)
fill_single out at i n d e f =
    let place : at + 0 ≡ at = omega arith in
    sym (fill_end (set out at d) at 0 (n / 10) refl) ∙ (rw place at (fill_step out at i 0 n d e f))

pub length_hex : (v : ℕ) → length (hex_text 2 v) ≡ 2
unfolding hex_text
length_hex v = refl

-- four hex digits are two and two
hex_pairs : (v : ℕ) → hex_text 4 v ≡ hex_text 2 (v / 256) ++ hex_text 2 (v % 256)
unfolding hex_text
hex_pairs v =
    let a : v / 16 / 16 / 16 % 16 ≡ v / 256 / 16 % 16 = omega arith in
    let b : v / 16 / 16 % 16 ≡ v / 256 % 16 = omega arith in
    let c : v / 16 % 16 ≡ v % 256 / 16 % 16 = omega arith in
    let d : v % 16 ≡ v % 256 % 16 = omega arith in
    rw (a, b, c, d)

pub hex_put : (l : List ℕ) (at v : ℕ) (l' l'' : List ℕ) → l' ≡ sets l at (hex_text 2 (v / 256)) → l'' ≡ sets l' (at + 2) (hex_text 2 (v % 256)) → l'' ≡ sets l at (hex_text 4 v)
hex_put l at v l' l'' p q =
    let two : sets (sets l at (hex_text 2 (v / 256))) (at + 2) (hex_text 2 (v % 256)) ≡ sets l at (hex_text 2 (v / 256) ++ hex_text 2 (v % 256)) =
    rw (length_hex (v / 256)) at (sets_append (hex_text 2 (v / 256)) (hex_text 2 (v % 256)) l at) in
    q ∙ rw (p, hex_pairs v) two

pub length_four : (v : ℕ) → length (hex_text 4 v) ≡ 4
unfolding hex_text
length_four v = refl

-- what a caller with room learns
module _ (out : List ℕ) (at : ℕ) (text : List ℕ) (h : at + length text ≤ length out) where
  pub placed_in : placed out at text ≡ at + length text
  unfolding placed
  placed_in = rw (le-leb _ _ h)

  pub printed_in : printed out at text ≡ sets out at text
  unfolding printed
  printed_in = rw (le-leb _ _ h)
