-- Bytes and words written over the front of what is lent. Assumes nothing.
use mathlib.Core.Path.{◌≡◌, refl, ap, ap₂, sym, ◌∙◌}
use mathlib.Core.List.{List, [], ◌∷◌, ◌++◌, append_assoc}
use Prim.Native.Nat.{ℕ, ◌+◌, ◌*◌, ◌≤◌, ◌<◌}
use native.Mathlib.Numerals.{add-one}
use native.Mathlib.Omega.{arith}
use lib.ListN.{length, set, drop, length-append}
use lib.Seq.{sets, length-sets, sets-eq}
use Rattle.arith.proofs.PickLaws.{pick_both}
use Rattle.text_print.specs.Printed.{fits, printed}
use Rattle.text_print.proofs.StoreLaws.{sets_append, written, kept, printed_in}
use Rattle.log_salvage_rules.specs.Entries.{Entry, dropped, added, entry_words, list_words}
use Rattle.arith.specs.Over.{over}
use Rattle.log_salvage.specs.Writing.{Over}

-- nothing at all
pub printed_none : (l : List ℕ) (at : ℕ) → l ≡ printed l at []
unfolding printed
printed_none l at = pick_both (λ (x : List ℕ). l ≡ x) (fits l at []) refl refl

-- two words, or none
module _ (l : List ℕ) (i a b : ℕ) where
  pub two_put : i + 1 < length l → set (set l i a) (i + 1) b ≡ printed l i (a ∷ b ∷ [])
  two_put h =
      let e : set (set l i a) (i + 1) b ≡ sets l i (a ∷ b ∷ []) = rw add-one refl in
      (written l i (a ∷ b ∷ []) 2 refl (omega arith) (set (set l i a) (i + 1) b) e).1

  pub two_not : length l ≤ i + 1 → l ≡ printed l i (a ∷ b ∷ [])
  two_not h = (kept l i (a ∷ b ∷ []) 2 refl (omega arith)).1

pub printed_long : (l : List ℕ) (at : ℕ) (text : List ℕ) → length (printed l at text) ≡ length l
unfolding printed
printed_long l at text = pick_both (λ (x : List ℕ). length x ≡ length l) (fits l at text) (length-sets l at text) refl

-- what was written, and a piece behind it
pub over_more : {old text : List ℕ} {now : List ℕ} → Over old text now → (at : ℕ) (piece : List ℕ) (next : List ℕ) → at ≡ length text → next ≡ printed now at piece → Over old (text ++ piece) next
over_more {old} {text} {now} o at piece next e f =
    record {
      size = ap length f ∙ (printed_long now at piece ∙ o.size);
      is = λ h.
          let l = length-append text piece in
          let first : now ≡ sets old 0 text = o.is (omega arith) in
          let z : at ≡ 0 + length text = omega arith in
          f ∙ (printed_in now at piece (omega (arith, o.size)) ∙ (ap₂ (λ (x : List ℕ) (i : ℕ). sets x i piece) first z ∙ sets_append text piece old 0));
    }

pub over_none : (old : List ℕ) → Over old [] old
over_none old = record { size = refl; is = λ h. refl }

pub over_all : {old text now : List ℕ} → Over old text now → length text ≤ length old → now ≡ over text old
unfolding over
over_all {old} {text} {now} o h =
    o.is h ∙ (sets-eq text old 0 (omega arith) ∙ ap (λ (j : ℕ). text ++ drop j old) (let z : 0 + length text ≡ length text = omega arith in z))

-- the words of a list

pub words_long : (es : List Entry) → length (list_words es) ≡ 2 * length es
unfolding list_words entry_words
words_long [] = refl
words_long (dropped s r ∷ es) = let h = words_long es in omega arith
words_long (added p ∷ es) = let h = words_long es in omega arith

pub words_more : (es fs : List Entry) → list_words (es ++ fs) ≡ list_words es ++ list_words fs
unfolding list_words
words_more [] fs = refl
words_more (e ∷ es) fs = ap (λ (x : List ℕ). entry_words e ++ x) (words_more es fs) ∙ sym (append_assoc (entry_words e) (list_words es) (list_words fs))
