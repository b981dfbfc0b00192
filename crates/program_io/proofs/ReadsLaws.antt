-- Answers of reads, one after another: one more at the end, and what holds while each of them brought bytes. Assumes nothing.
use Prim.Native.Nat.{ℕ, ◌+◌, ◌≤◌, ◌<◌}
use native.Mathlib.Omega.{arith}
use mathlib.Core.Path.{◌≡◌, refl, sym, ap, ◌∙◌}
use mathlib.Core.Bool.{Bool, true, false, not}
use mathlib.Core.List.{List, [], ◌∷◌}
use lib.IntN.{ℤ, pos, negsuc}
use lib.ListN.{length, drop}
use lib.Seq.{paste, paste-zero, drop-paste, length-paste, drop-drop}
use borrow.Author.Tests.{lt-ltb, le-ltb, eq-eqb, ne_eqb}
use Rattle.arith.specs.Pick.{both}
use Rattle.arith.proofs.PickLaws.{both_left, both_right, both_true}
use Rattle.std.specs.Counts.{IsPrefixLen}
use Rattle.std.specs.Prelude.{Result, Ok, Err, IfOk}
use Rattle.std.proofs.lemmas.List.{length-take-le}
use Rattle.program_io.specs.Answers.{answer_of}
use Rattle.program_io.specs.Reads.{got, is_failure, is_some, total, last_failed, last_empty, others_some, Reads}
use Rattle.program_io.specs.Writes.{Writes}

-- a number within a buffer
pub prefix_len_of_le : (n : ℕ) (xs : List ℕ) → n ≤ length xs → IsPrefixLen n xs
prefix_len_of_le n xs h = (h, sym (length-take-le n xs h))

-- a call that is handed n bytes moves no more
pub moved : {E : Type 0} (n : ℕ) (r : Result ℕ E) → IfOk r (λ k. k ≤ n) → got (answer_of r) ≤ n
moved n (Ok k) h = h
moved n (Err e) h = omega arith

-- one more answer
pub then : List ℤ → ℤ → List ℤ
then [] a = a ∷ []
then (x ∷ xs) a = x ∷ then xs a

-- whether every answer brought bytes
unfoldable pub all_some : List ℤ → Bool
all_some [] = true
all_some (x ∷ xs) = both (is_some x) (all_some xs)

then_total : (xs : List ℤ) (a : ℤ) → total (then xs a) ≡ total xs + got a
unfolding then
then_total [] a = omega arith
then_total (x ∷ xs) a = let ih = then_total xs a in omega arith

then_failed : (xs : List ℤ) (a : ℤ) → last_failed (then xs a) ≡ is_failure a
unfolding then
then_failed [] a = refl
then_failed (x ∷ []) a = refl
then_failed (x ∷ y ∷ xs) a = then_failed (y ∷ xs) a

then_empty : (xs : List ℤ) (a : ℤ) → last_empty (then xs a) ≡ not (is_some a)
unfolding then
then_empty [] a = refl
then_empty (x ∷ []) a = refl
then_empty (x ∷ y ∷ xs) a = then_empty (y ∷ xs) a

then_others : (xs : List ℤ) (a : ℤ) → all_some xs ≡ true → others_some (then xs a) ≡ true
unfolding then all_some
then_others [] a h = refl
then_others (x ∷ []) a h = both_true (is_some x) true (both_left (is_some x) true h) refl
then_others (x ∷ y ∷ xs) a h =
    let rest = all_some (y ∷ xs) in
    both_true (is_some x) (others_some (then (y ∷ xs) a)) (both_left (is_some x) rest h) (then_others (y ∷ xs) a (both_right (is_some x) rest h))

then_all : (xs : List ℤ) (a : ℤ) → all_some xs ≡ true → is_some a ≡ true → all_some (then xs a) ≡ true
unfolding then all_some
then_all [] a h s = both_true (is_some a) true s refl
then_all (x ∷ xs) a h s = both_true (is_some x) (all_some (then xs a)) (both_left (is_some x) (all_some xs) h) (then_all xs a (both_right (is_some x) (all_some xs) h) s)

pub all_others : (xs : List ℤ) → all_some xs ≡ true → others_some xs ≡ true
unfolding all_some
all_others [] h = refl
all_others (x ∷ []) h = refl
all_others (x ∷ y ∷ xs) h =
    let rest = all_some (y ∷ xs) in
    both_true (is_some x) (others_some (y ∷ xs)) (both_left (is_some x) rest h) (all_others (y ∷ xs) (both_right (is_some x) rest h))

some_sound : (a : ℤ) → is_some a ≡ true → is_failure a ≡ false
some_sound (pos n) h = refl
some_sound (negsuc n) h = sym h

all_sound : (xs : List ℤ) → all_some xs ≡ true → last_failed xs ≡ false
unfolding all_some
all_sound [] h = refl
all_sound (x ∷ []) h = some_sound x (both_left (is_some x) true h)
all_sound (x ∷ y ∷ xs) h = all_sound (y ∷ xs) (both_right (is_some x) (all_some (y ∷ xs)) h)

-- reading under way: each read so far brought bytes
pub record Going (before now : List ℕ) (done : ℕ) : Type 0 where
  pub answers : List ℤ
  pub counted : done ≡ total answers
  pub each : all_some answers ≡ true
  pub fits : done ≤ length now
  pub rest : drop done now ≡ drop done before
  pub size : length now ≡ length before

pub going_start : (before : List ℕ) → Going before before 0
unfolding all_some
going_start before = record {
  answers = [];
  counted = refl;
  each = refl;
  fits = omega arith;
  rest = refl;
  size = refl;
}

pos_of : (k : ℕ) → (k ≡ 0 → ⊥) → 0 < k
pos_of k h = omega arith

at_most : (k : ℕ) → k ≡ 0 → k ≤ 0
at_most k h = omega arith

ends : (m k : ℕ) → k ≡ 0 → m ≡ m + k
ends m k h = omega arith

further : (before now : List ℕ) (done k : ℕ) → drop done now ≡ drop done before → drop (done + k) now ≡ drop (done + k) before
further before now done k e = sym (drop-drop k done now) ∙ ap (drop k) e ∙ drop-drop k done before

-- one more read that brought bytes, k of them, put behind those before
pub going_on : (before now chunk next : List ℕ) (done : ℕ) (a : ℤ) → Going before now done → next ≡ paste now done chunk (got a) → got a ≤ length chunk
    → done + got a ≤ length now → (got a ≡ 0 → ⊥) → Going before next (done + got a)
going_on before now chunk next done a g e hc hn some = record {
  answers = then g.answers a;
  counted = ap (λ (k : ℕ). k + got a) g.counted ∙ sym (then_total g.answers a);
  each = then_all g.answers a g.each (lt-ltb 0 (got a) (pos_of _ some));
  fits = rw (e, length-paste now done chunk (got a) hn hc) hn;
  rest = rw e (drop-paste now done chunk (got a) g.fits hc) ∙ further before now done (got a) g.rest;
  size = rw e (length-paste now done chunk (got a) hn hc) ∙ g.size;
}

-- a read that brought nothing ends it
pub stopped : (before now chunk next : List ℕ) (done : ℕ) (a : ℤ) (failed : Bool) → Going before now done → next ≡ paste now done chunk (got a) → got a ≡ 0
    → failed ≡ is_failure a → Reads before next done failed
stopped before now chunk next done a failed g e none f =
    let same : next ≡ now = e ∙ ap (paste now done chunk) none ∙ sym (paste-zero now done chunk) in
    record {
      answers = then g.answers a;
      counted = g.counted ∙ ends (total g.answers) (got a) none ∙ sym (then_total g.answers a);
      told = f ∙ sym (then_failed g.answers a);
      onward = then_others g.answers a g.each;
      ended = λ h. then_empty g.answers a ∙ ap not (le-ltb 0 (got a) (at_most _ none));
      within = prefix_len_of_le _ _ (rw same g.fits);
      rest = rw same g.rest;
      size = rw same g.size;
    }

-- and so does a full buffer
pub full : (before now : List ℕ) (done : ℕ) → Going before now done → length now ≤ done → Reads before now done false
full before now done g h = record {
  answers = g.answers;
  counted = g.counted;
  told = sym (all_sound g.answers g.each);
  onward = all_others g.answers g.each;
  ended = λ l. absurd (clash (length now) (length before) done h l g.size);
  within = prefix_len_of_le _ _ g.fits;
  rest = g.rest;
  size = g.size;
}
  where
    clash : (n b k : ℕ) → n ≤ k → k < b → n ≡ b → ⊥
    clash n b k h l e = omega arith

-- The same of a text that is written: one more write that took bytes.
pub sent_on : (text : List ℕ) (done : ℕ) (a : ℤ) → Going text text done → done + got a ≤ length text → (got a ≡ 0 → ⊥) → Going text text (done + got a)
sent_on text done a g h some = record {
  answers = then g.answers a;
  counted = ap (λ (k : ℕ). k + got a) g.counted ∙ sym (then_total g.answers a);
  each = then_all g.answers a g.each (lt-ltb 0 (got a) (pos_of _ some));
  fits = h;
  rest = refl;
  size = refl;
}

-- a write that took nothing
pub sent_stopped : (text : List ℕ) (done : ℕ) (a : ℤ) → Going text text done → got a ≡ 0 → done < length text → Writes text false
sent_stopped text done a g none less =
    let sum : total (then g.answers a) ≡ done = then_total g.answers a ∙ sym (g.counted ∙ ends (total g.answers) (got a) none) in
    record {
      answers = then g.answers a;
      told = sym (ne_eqb _ _ (λ e. absurd (clash (total (then g.answers a)) (length text) done sum less e)));
      within = rw sum g.fits;
      onward = then_others g.answers a g.each;
      ended = λ h. then_empty g.answers a ∙ ap not (le-ltb 0 (got a) (at_most _ none));
    }
  where
    clash : (n b k : ℕ) → n ≡ k → k < b → n ≡ b → ⊥
    clash n b k h l e = omega arith

-- all is written
pub sent_all : (text : List ℕ) (done : ℕ) → Going text text done → length text ≤ done → Writes text true
sent_all text done g h = record {
  answers = g.answers;
  told = sym (eq-eqb _ _ (meets (total g.answers) (length text) done g.counted g.fits h));
  within = rw (sym g.counted) g.fits;
  onward = all_others g.answers g.each;
  ended = λ l. absurd (clash (total g.answers) (length text) done g.counted h l);
}
  where
    meets : (n b k : ℕ) → k ≡ n → k ≤ b → b ≤ k → n ≡ b
    meets n b k e f h = omega arith

    clash : (n b k : ℕ) → k ≡ n → b ≤ k → n < b → ⊥
    clash n b k e h l = omega arith
