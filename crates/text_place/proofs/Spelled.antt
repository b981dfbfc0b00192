-- Laws of bytes shown one by one. Assumes nothing.
use Prim.Native.Nat.{ℕ, suc, ◌+◌, ◌≤◌, ◌<◌}
use mathlib.Core.Path.{◌≡◌, refl, sym, ap, ◌∙◌}
use mathlib.Core.Bool.{true, false}
use mathlib.Core.List.{List, [], ◌∷◌, ◌++◌, append-nil}
use native.Mathlib.Numerals.{add-one}
use native.Mathlib.Omega.{arith}
use lib.ListN.{length, get_or, drop, length-append, drop_of_length-le, replicate-append-replicate}
use lib.Seq.{sets, length-sets, drop-cons}
use Rattle.text_print.proofs.StoreLaws.{sets_append}
use Rattle.text.specs.Ascii.{bytes}
use Rattle.text.specs.Hex.{hex_text}
use Rattle.text_place.specs.Shown.{visible, shown_byte, shown, blank}

-- a text made of the bytes of s one by one: f of s from g of each
module _ (f : List ℕ → List ℕ) (g : ℕ → List ℕ) (none : f [] ≡ []) (more : (c : ℕ) (s : List ℕ) → f (c ∷ s) ≡ g c ++ f s) where
  next : (s : List ℕ) (i : ℕ) → i < length s → f (drop i s) ≡ g (get_or s i 0) ++ f (drop (i + 1) s)
  next s i h = rw (add-one, drop-cons s i 0) (more (get_or s i 0) (drop (suc i) s))

  -- room for all that is left is room for the next
  pub spell_room : (s : List ℕ) (i : ℕ) → i < length s → (place size : ℕ) → place + length (f (drop i s)) ≤ size → place + length (g (get_or s i 0)) ≤ size
  spell_room s i h place size room =
      let e = ap length (next s i h) ∙ length-append (g (get_or s i 0)) (f (drop (i + 1) s)) in
      omega arith

  -- what is left behind it makes the whole still
  pub spell_step : (s : List ℕ) (i : ℕ) → i < length s → (out : List ℕ) (place whole : ℕ) (all : List ℕ)
      → place + length (f (drop i s)) ≡ whole → sets out place (f (drop i s)) ≡ all
      → (r : ℕ) (out' : List ℕ) → r ≡ place + length (g (get_or s i 0)) → out' ≡ sets out place (g (get_or s i 0))
      → (length out' ≡ length out) × (r + length (f (drop (i + 1) s)) ≡ whole) × (sets out' r (f (drop (i + 1) s)) ≡ all)
  spell_step s i h out place whole all size bytes r out' p b =
      let n = next s i h in
      let e = ap length n ∙ length-append (g (get_or s i 0)) (f (drop (i + 1) s)) in (
        ap length b ∙ length-sets out place (g (get_or s i 0)),
        omega arith,
        rw (b, p) (sets_append (g (get_or s i 0)) (f (drop (i + 1) s)) out place ∙ (rw n at bytes)),
      )

  pub spell_end : (s : List ℕ) (i : ℕ) → length s ≤ i → f (drop i s) ≡ []
  spell_end s i h = rw (drop_of_length-le s h) none

pub shown_none : shown [] ≡ []
unfolding shown
shown_none = refl

pub shown_more : (c : ℕ) (s : List ℕ) → shown (c ∷ s) ≡ shown_byte c ++ shown s
unfolding shown
shown_more c s = refl

pub blank_none : blank [] ≡ []
unfolding blank shown
blank_none = refl

pub blank_more : (c : ℕ) (s : List ℕ) → blank (c ∷ s) ≡ blank (c ∷ []) ++ blank s
unfolding blank shown
blank_more c s =
    rw (append-nil (shown_byte c), length-append (shown_byte c) (shown s))
    (sym (replicate-append-replicate (length (shown_byte c)) (length (shown s)) 32))

module _ (c : ℕ) (e : visible c ≡ true) where
  pub shown_itself : shown_byte c ≡ c ∷ []
  unfolding shown_byte
  shown_itself = rw e

  pub blank_one : blank (c ∷ []) ≡ bytes " "
  unfolding blank shown
  blank_one = rw shown_itself

module _ (c : ℕ) (e : visible c ≡ false) where
  pub shown_escaped : shown_byte c ≡ bytes "\\x" ++ hex_text 2 c
  unfolding shown_byte
  shown_escaped = rw e

  pub blank_four : blank (c ∷ []) ≡ bytes "    "
  unfolding blank shown hex_text
  blank_four = rw shown_escaped
