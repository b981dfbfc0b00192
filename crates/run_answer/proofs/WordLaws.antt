-- Records as words over the lent ones. Assumes nothing.
use Prim.Native.Nat.{ℕ, suc, ◌+◌, ◌*◌, ◌≤◌, ◌<◌}
use mathlib.Core.Path.{◌≡◌, refl, sym, ap, ◌∙◌}
use mathlib.Core.List.{List, [], ◌∷◌, ◌++◌, append_assoc}
use native.Mathlib.Numerals.{add-two}
use native.Mathlib.Omega.{arith}
use lib.ListN.{length, drop, set, get_or, length-append, length-drop}
use lib.Seq.{drop-cons, set_at}
use Rattle.reading.specs.Reading.{Mark}
use borrow.Author.Tests.{lt-ltb, le-ltb}
use Rattle.arith.specs.Over.{over}
use Rattle.run_answer.specs.Run.{room_of, stored, flat}

pub length_flat : (ms : List Mark) → length (flat ms) ≡ 2 * length ms
unfolding flat
length_flat [] = refl
length_flat (m ∷ ms) = omega (arith, length_flat ms)

flat_append : (a b : List Mark) → flat (a ++ b) ≡ flat a ++ flat b
unfolding flat
flat_append [] b = refl
flat_append (m ∷ a) b = ap (λ (l : List ℕ). m.clock ∷ m.level ∷ l) (flat_append a b)

pub over_none : (words : List ℕ) → over (flat []) words ≡ words
unfolding over flat
over_none words = refl

pub length_over : (new old : List ℕ) → length new ≤ length old → length (over new old) ≡ length old
unfolding over
length_over new old h = simp (length-append, length-drop) (omega arith)

two_stores : (p : List ℕ) (x y : ℕ) (rest : List ℕ) (n a b : ℕ) → length p ≡ n
    → set (set (p ++ x ∷ y ∷ rest) n a) (n + 1) b ≡ p ++ a ∷ b ∷ rest
two_stores p x y rest n a b e =
    rw (set_at p x (y ∷ rest) a n e)
    (ap (λ (l : List ℕ). set l (n + 1) b) (sym (append_assoc p (a ∷ []) (y ∷ rest)))
    ∙ set_at (p ++ (a ∷ [])) y rest b (n + 1) (length-append p (a ∷ []) ∙ omega arith)
    ∙ append_assoc p (a ∷ []) (b ∷ rest))

drop_two : (words : List ℕ) (n : ℕ) → n + 2 ≤ length words
    → drop n words ≡ get_or words n 0 ∷ get_or words (suc n) 0 ∷ drop (n + 2) words
drop_two words n h =
    drop-cons words n 0 (omega arith)
    ∙ ap (λ (l : List ℕ). get_or words n 0 ∷ l) (drop-cons words (suc n) 0 (omega arith))
    ∙ rw add-two

-- a further record is two stores behind the records so far
pub over_more : (ms : List Mark) (m : Mark) (words : List ℕ) (n : ℕ) → length ms ≡ n → 2 * n + 2 ≤ length words
    → set (set (over (flat ms) words) (2 * n) m.clock) (2 * n + 1) m.level ≡ over (flat (ms ++ (m ∷ []))) words
unfolding over flat
over_more ms m words n e h =
    let len : length (flat ms) ≡ 2 * n = length_flat ms ∙ ap (λ (k : ℕ). 2 * k) e in
    let more : length (flat ms ++ m.clock ∷ m.level ∷ []) ≡ 2 * n + 2 = length-append (flat ms) (m.clock ∷ m.level ∷ []) ∙ omega arith in
    ap (λ (l : List ℕ). set (set (flat ms ++ l) (2 * n) m.clock) (2 * n + 1) m.level)
    (ap (λ (k : ℕ). drop k words) len ∙ drop_two words (2 * n) h)
    ∙ two_stores (flat ms) _ _ _ (2 * n) m.clock m.level len
    ∙ rw (flat_append ms (m ∷ []), more) (sym (append_assoc (flat ms) (m.clock ∷ m.level ∷ []) (drop (2 * n + 2) words)))

-- where there is room, a record is stored as two words
pub stored_in : (words : List ℕ) (n clock level : ℕ) → n < room_of words → stored words n clock level ≡ set (set words (2 * n) clock) (2 * n + 1) level
unfolding stored
stored_in words n clock level h = rw (lt-ltb _ _ h)

-- and where there is none, nothing
pub stored_out : (words : List ℕ) (n clock level : ℕ) → room_of words ≤ n → stored words n clock level ≡ words
unfolding stored
stored_out words n clock level h = rw (le-ltb _ _ h)
