-- Records as lines. Assumes nothing.
use Prim.Native.Nat.{ℕ, zero, suc, ◌+◌, ◌-◌, ◌*◌, ◌/◌, ◌%◌, ◌≤◌, ◌<◌, min}
use mathlib.Core.Path.{◌≡◌, refl, ap, ap₂, ◌∙◌}
use mathlib.Core.Bool.{Bool, true, false}
use mathlib.Core.List.{List, [], ◌∷◌, ◌++◌}
use native.Mathlib.Omega.{arith}
use lib.Dec.{ltb}
use lib.ListN.{length, get_or, drop, length-append}
use lib.Seq.{sets, drop-cons}
use borrow.Author.Tests.{ltb-true, ltb-false}
use Rattle.arith.specs.Pick.{pick}
use Rattle.play_text.specs.declared.Entry.{Entry}
use Rattle.play_text.specs.declared.Entry.TheVariants.{Level}
use Rattle.play_text.specs.Entries.{entry_text, entries_text}
use Rattle.play_text.proofs.TextLaws.{level_long, entries_more}
use Rattle.play_levels.specs.Levels.{level_entries}
use Rattle.play_levels.specs.Words.{Ahead}

-- the loop of `records`
module _ (t n : ℕ) (words : List ℕ) (h : 2 * n ≤ length words) (i : ℕ) (k : i < n) where
  abbrev first : Entry
  first = Level (t + get_or words (2 * i) 0) (get_or words (2 * i + 1) 0 % 65536)

  abbrev rest : List Entry
  rest = level_entries t (n - (i + 1)) (drop (2 * (i + 1)) words)

  lines_first : level_entries t (n - i) (drop (2 * i) words) ≡ first ∷ rest
  unfolding level_entries
  lines_first =
      let a : n - i ≡ suc (n - (i + 1)) = omega arith in
      let b : drop (2 * i) words ≡ get_or words (2 * i) 0 ∷ drop (suc (2 * i)) words = drop-cons words (2 * i) 0 (omega arith) in
      let c : drop (suc (2 * i)) words ≡ get_or words (suc (2 * i)) 0 ∷ drop (suc (suc (2 * i))) words = drop-cons words (suc (2 * i)) 0 (omega arith) in
      let d : suc (2 * i) ≡ 2 * i + 1 = omega arith in
      let e : suc (suc (2 * i)) ≡ 2 * (i + 1) = omega arith in
      let f : drop (2 * i) words ≡ get_or words (2 * i) 0 ∷ get_or words (2 * i + 1) 0 ∷ drop (2 * (i + 1)) words =
      b ∙ ap (λ (l : List ℕ). get_or words (2 * i) 0 ∷ l) (c ∙ ap₂ (λ (x y : ℕ). get_or words x 0 ∷ drop y words) d e) in
      ap₂ (λ (x : ℕ) (l : List ℕ). level_entries t x l) a f

  lines_text : entries_text (level_entries t (n - i) (drop (2 * i) words)) ≡ entry_text first ++ entries_text rest
  lines_text = ap entries_text lines_first ∙ entries_more first rest

-- behind a line that isn't the last, another one covers eight bytes
covers : (t n : ℕ) (words : List ℕ) → 2 * n ≤ length words → (i : ℕ)
    → pick (ltb (i + 1) n) 8 0 ≤ length (entries_text (level_entries t (n - (i + 1)) (drop (2 * (i + 1)) words)))
covers t n words h i = by (ltb (i + 1) n) refl
  where
    by : (b : Bool) → ltb (i + 1) n ≡ b → pick b 8 0 ≤ length (entries_text (level_entries t (n - (i + 1)) (drop (2 * (i + 1)) words)))
    by true e =
        let k = ltb-true (i + 1) n e in
        let x = t + get_or words (2 * (i + 1)) 0 in
        let y = get_or words (2 * (i + 1) + 1) 0 % 65536 in
        omega (arith, ap length (lines_text t n words h (i + 1) k), length-append (entry_text (first t n words h (i + 1) k)) (entries_text (rest t n words h (i + 1) k)), level_long x y)
    by false e = omega arith

-- a line more
pub lines_step : (t n : ℕ) (words : List ℕ) → 2 * n ≤ length words → (i : ℕ) → i < n → (out : List ℕ) (place whole : ℕ) (all : List ℕ)
    → place + length (entries_text (level_entries t (n - i) (drop (2 * i) words))) ≡ whole → sets out place (entries_text (level_entries t (n - i) (drop (2 * i) words))) ≡ all
    → (x y : ℕ) → x ≡ t + get_or words (2 * i) 0 → y ≡ get_or words (2 * i + 1) 0 % 65536
    → (out' : List ℕ) (r : ℕ) → Ahead (pick (ltb (i + 1) n) 8 0) out place (entry_text (Level x y)) out' r
    → (r + length (entries_text (level_entries t (n - (i + 1)) (drop (2 * (i + 1)) words))) ≡ whole)
    × (sets out' r (entries_text (level_entries t (n - (i + 1)) (drop (2 * (i + 1)) words))) ≡ all)
lines_step t n words h i k out place whole all size bytes x y ex ey out' r a =
    let e = lines_text t n words h i k in
    let f : entry_text (Level x y) ≡ entry_text (first t n words h i k) = ap₂ (λ (u v : ℕ). entry_text (Level u v)) ex ey in
    let l = length-append (entry_text (first t n words h i k)) (entries_text (rest t n words h i k)) in
    let s : place + length (entry_text (first t n words h i k) ++ entries_text (rest t n words h i k)) ≡ whole = rw e at size in
    let b : sets out place (entry_text (first t n words h i k) ++ entries_text (rest t n words h i k)) ≡ all = rw e at bytes in (
      omega (arith, a.place, ap length f, l, s),
      a.bytes (entries_text (rest t n words h i k)) (covers t n words h i) ∙ ap (λ (u : List ℕ). sets out place (u ++ entries_text (rest t n words h i k))) f ∙ b,
    )

pub lines_none : (t n : ℕ) (words : List ℕ) (i : ℕ) → n ≤ i → entries_text (level_entries t (n - i) (drop (2 * i) words)) ≡ []
unfolding level_entries entries_text
lines_none t n words i h = let e : n - i ≡ 0 = omega arith in rw e

pub lines_all : (t n : ℕ) (words : List ℕ) → level_entries t (n - 0) (drop (2 * 0) words) ≡ level_entries t n words
lines_all t n words = let e : n - 0 ≡ n = omega arith in rw e

-- no more records than there are words for
levels_few : (t k n : ℕ) (words : List ℕ) → k ≤ n → 2 * k ≤ length words → length words < 2 * k + 2 → level_entries t k words ≡ level_entries t n words
unfolding level_entries
levels_few t zero zero words a b c = refl
levels_few t zero (suc n) [] a b c = refl
levels_few t zero (suc n) (x ∷ []) a b c = refl
levels_few t zero (suc n) (x ∷ y ∷ words) a b c = absurd (omega arith)
levels_few t (suc k) zero words a b c = absurd (omega arith)
levels_few t (suc k) (suc n) [] a b c = absurd (omega arith)
levels_few t (suc k) (suc n) (x ∷ []) a b c = absurd (omega arith)
levels_few t (suc k) (suc n) (x ∷ y ∷ words) a b c =
    ap (λ (l : List Entry). Level (t + x) (y % 65536) ∷ l) (levels_few t k n words (omega arith) (omega arith) (omega arith))

-- as many records as there are words for
pub levels_all : (t n : ℕ) (words : List ℕ) → level_entries t (min n (length words / 2)) words ≡ level_entries t n words
levels_all t n words = by (ltb n (length words / 2)) refl
  where
    by : (b : Bool) → ltb n (length words / 2) ≡ b → level_entries t (min n (length words / 2)) words ≡ level_entries t n words
    by true e = let h = ltb-true n (length words / 2) e in ap (λ (k : ℕ). level_entries t k words) (omega arith)
    by false e =
        let h = ltb-false n (length words / 2) e in
        levels_few t (min n (length words / 2)) n words (omega arith) (omega arith) (omega arith)
