-- A text written in pieces, each behind one that was taken whole, is written as one text. Assumes nothing.
use Prim.Native.Nat.{ℕ, ◌+◌, ◌<◌}
use native.Mathlib.Omega.{arith}
use mathlib.Core.Path.{◌≡◌, refl, sym}
use mathlib.Core.Bool.{Bool, true, false, false≢true}
use mathlib.Core.List.{List, [], ◌∷◌, ◌++◌}
use lib.IntN.{ℤ}
use lib.ListN.{length, length-append}
use borrow.Author.Tests.{eq-eqb, ne_eqb, eqb-true, eqb-false, ltb-false}
use Rattle.arith.proofs.PickLaws.{both_left, both_right, both_true}
use Rattle.program_io.specs.Reads.{got, is_some, total, last_empty, others_some}
use Rattle.program_io.specs.Writes.{Writes}
use Rattle.program_io.proofs.ReadsLaws.{all_some, all_others}

-- ANSWERS OF TWO TEXTS, ONE BEHIND THE OTHER

total_append : (xs ys : List ℤ) → total (xs ++ ys) ≡ total xs + total ys
total_append [] ys = omega arith
total_append (x ∷ xs) ys = let h = total_append xs ys in omega arith

all_append : (xs ys : List ℤ) → all_some xs ≡ true → all_some ys ≡ true → all_some (xs ++ ys) ≡ true
unfolding all_some
all_append [] ys h g = g
all_append (x ∷ xs) ys h g =
    both_true (is_some x) (all_some (xs ++ ys)) (both_left (is_some x) (all_some xs) h) (all_append xs ys (both_right (is_some x) (all_some xs) h) g)

others_append : (xs ys : List ℤ) → all_some xs ≡ true → others_some ys ≡ true → others_some (xs ++ ys) ≡ true
unfolding all_some
others_append [] ys h g = g
others_append (x ∷ []) [] h g = refl
others_append (x ∷ []) (y ∷ ys) h g = both_true (is_some x) (others_some (y ∷ ys)) (both_left (is_some x) true h) g
others_append (x ∷ z ∷ xs) ys h g =
    let rest = all_some (z ∷ xs) in
    both_true (is_some x) (others_some (z ∷ (xs ++ ys))) (both_left (is_some x) rest h) (others_append (z ∷ xs) ys (both_right (is_some x) rest h) g)

last_append : (xs ys : List ℤ) → last_empty ys ≡ true → last_empty (xs ++ ys) ≡ true
last_append [] ys h = h
last_append (x ∷ []) [] h = absurd (false≢true h)
last_append (x ∷ []) (y ∷ ys) h = h
last_append (x ∷ z ∷ xs) ys h = last_append (z ∷ xs) ys h

-- A TEXT THAT WAS TAKEN WHOLE

-- each answer stands for bytes, and all of them for the text
pub record Sent (text : List ℕ) : Type 0 where
  pub answers : List ℤ
  pub counted : total answers ≡ length text
  pub each : all_some answers ≡ true

-- without an answer at the end that stands for none
record Trimmed (xs : List ℤ) : Type 0 where
  answers : List ℤ
  counted : total answers ≡ total xs
  each : all_some answers ≡ true

trimmed : (xs : List ℤ) → others_some xs ≡ true → Trimmed xs
unfolding all_some
trimmed [] h = record { answers = []; counted = refl; each = refl }
trimmed (x ∷ []) h = go (is_some x) refl
  where
    go : (b : Bool) → is_some x ≡ b → Trimmed (x ∷ [])
    go true e = record { answers = x ∷ []; counted = refl; each = both_true (is_some x) true e refl }
    go false e = record { answers = []; counted = let l = ltb-false 0 (got x) e in omega arith; each = refl }
trimmed (x ∷ y ∷ xs) h =
    let t = trimmed (y ∷ xs) (both_right (is_some x) (others_some (y ∷ xs)) h) in
    record {
      answers = x ∷ t.answers;
      counted = let c = t.counted in omega arith;
      each = both_true (is_some x) (all_some t.answers) (both_left (is_some x) (others_some (y ∷ xs)) h) t.each;
    }

pub sent_none : Sent []
unfolding all_some
sent_none = record { answers = []; counted = refl; each = refl }

-- one more piece that was taken whole
pub sent_piece : (text piece : List ℕ) → Sent text → Writes piece true → Sent (text ++ piece)
sent_piece text piece s w =
    let t = trimmed w.answers w.onward in
    let a = total_append s.answers t.answers in
    let b = s.counted in
    let c = t.counted in
    let d = eqb-true (total w.answers) (length piece) (sym w.told) in
    record {
      answers = s.answers ++ t.answers;
      counted = omega (arith, length-append text piece);
      each = all_append s.answers t.answers s.each t.each;
    }

-- a piece of which the system did not take all ends it, whatever stands behind it
pub sent_cut : (text piece rest : List ℕ) → Sent text → Writes piece false → Writes ((text ++ piece) ++ rest) false
sent_cut text piece rest s w =
    let a = total_append s.answers w.answers in
    let b = s.counted in
    let c = w.within in
    let n = eqb-false (total w.answers) (length piece) (sym w.told) in
    let less : total w.answers < length piece = omega (arith, n) in
    let l = length-append (text ++ piece) rest in
    let m = length-append text piece in
    record {
      answers = s.answers ++ w.answers;
      told = sym (ne_eqb (total (s.answers ++ w.answers)) (length ((text ++ piece) ++ rest)) (λ e. omega arith));
      within = omega arith;
      onward = others_append s.answers w.answers s.each w.onward;
      ended = λ h. last_append s.answers w.answers (w.ended less);
    }

-- all pieces taken whole
pub sent_whole : (text : List ℕ) → Sent text → Writes text true
sent_whole text s =
    let c = s.counted in
    record {
      answers = s.answers;
      told = sym (eq-eqb (total s.answers) (length text) c);
      within = omega arith;
      onward = all_others s.answers s.each;
      ended = λ h. absurd (omega arith);
    }
