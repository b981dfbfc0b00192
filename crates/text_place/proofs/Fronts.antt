-- Laws of a place's line. Assumes nothing.
use Prim.Native.Nat.{ℕ, suc, ◌+◌, ◌-◌, ◌≤◌, ◌<◌}
use mathlib.Core.Path.{◌≡◌, refl, sym, ap, ap₂, ◌∙◌}
use mathlib.Core.Bool.{Bool, true, false}
use mathlib.Core.List.{List, [], ◌∷◌, ◌++◌}
use native.Mathlib.Numerals.{add-one}
use native.Mathlib.Omega.{arith}
use borrow.Author.Tests.{eq-eqb, ne_eqb, lt-ltb}
use lib.Dec.{eqb, ltb}
use lib.ListN.{length, get_or, take, drop, length-append, take-append-drop, drop_of_length-le}
use lib.Seq.{take-suc, drop-cons, take-append-add, drop-append-le}
use Rattle.arith.specs.Pick.{pick}
use Rattle.text_place.specs.Place.{feeds, line_front, line_rest, front_at, line_at}

-- line feeds

pub feeds_low : (s : List ℕ) → feeds s ≤ length s
unfolding feeds
feeds_low [] = omega arith
feeds_low (c ∷ s) = by (eqb c 10) (feeds_low s)
  where
    by : (t : Bool) → feeds s ≤ length s → pick t (suc (feeds s)) (feeds s) ≤ suc (length s)
    by true h = omega arith
    by false h = omega arith

feeds_last : (s : List ℕ) → 0 < feeds (s ++ (10 ∷ []))
unfolding feeds
feeds_last [] = omega arith
feeds_last (c ∷ s) = by (eqb c 10) (feeds_last s)
  where
    by : (t : Bool) → 0 < feeds (s ++ (10 ∷ [])) → 0 < pick t (suc (feeds (s ++ (10 ∷ [])))) (feeds (s ++ (10 ∷ [])))
    by true h = omega arith
    by false h = h

feeds_same : (s : List ℕ) (c : ℕ) → (c ≡ 10 → ⊥) → feeds (s ++ (c ∷ [])) ≡ feeds s
unfolding feeds
feeds_same [] c h = rw (ne_eqb c 10 h)
feeds_same (d ∷ s) c h = rw (feeds_same s c h)

module _ (s : List ℕ) (i : ℕ) where
  pub feeds_one : i < length s → get_or s i 0 ≡ 10 → feeds (drop i s) ≡ suc (feeds (drop (i + 1) s))
  unfolding feeds
  feeds_one h e = rw (add-one, drop-cons s i 0, eq-eqb _ _ e)

  pub feeds_other : i < length s → (get_or s i 0 ≡ 10 → ⊥) → feeds (drop i s) ≡ feeds (drop (i + 1) s)
  unfolding feeds
  feeds_other h e = rw (add-one, drop-cons s i 0, ne_eqb _ _ e)

  pub feeds_none : length s ≤ i → feeds (drop i s) ≡ 0
  unfolding feeds
  feeds_none h = rw (drop_of_length-le s h)

-- the bytes behind the last one

front_last : (s : List ℕ) → line_front (s ++ (10 ∷ [])) ≡ []
unfolding line_front feeds
front_last [] = refl
front_last (c ∷ s) = rw (lt-ltb _ _ (feeds_last (c ∷ s))) (front_last s)

front_other : (s : List ℕ) (c : ℕ) → (c ≡ 10 → ⊥) → line_front (s ++ (c ∷ [])) ≡ line_front s ++ (c ∷ [])
unfolding line_front feeds
front_other [] c h = rw (ne_eqb c 10 h)
front_other (d ∷ s) c h = rw (feeds_same s c h, front_other s c h) (by (ltb 0 (feeds (d ∷ s))))
  where
    by : (t : Bool) → pick t (line_front s ++ (c ∷ [])) (d ∷ (s ++ (c ∷ []))) ≡ pick t (line_front s) (d ∷ s) ++ (c ∷ [])
    by true = refl
    by false = refl

module _ (s : List ℕ) (i : ℕ) (h : i < length s) where
  pub front_none : get_or s i 0 ≡ 10 → length (line_front (take (i + 1) s)) ≡ 0
  front_none e = rw (add-one, take-suc s i 0, e, front_last)

  pub front_more : (get_or s i 0 ≡ 10 → ⊥) → length (line_front (take (i + 1) s)) ≡ length (line_front (take i s)) + 1
  front_more e = rw (add-one, take-suc s i 0, front_other (take i s) (get_or s i 0) e, length-append)

pub front_low : (s : List ℕ) → length (line_front s) ≤ length s
unfolding line_front
front_low [] = omega arith
front_low (c ∷ s) = by (ltb 0 (feeds (c ∷ s))) (front_low s)
  where
    by : (t : Bool) → length (line_front s) ≤ length s → length (pick t (line_front s) (c ∷ s)) ≤ suc (length s)
    by true h = omega arith
    by false h = omega arith

-- they are the last of s
pub front_drop : (s : List ℕ) → drop (length s - length (line_front s)) s ≡ line_front s
unfolding line_front
front_drop [] = refl
front_drop (c ∷ s) = by (ltb 0 (feeds (c ∷ s))) (front_drop s)
  where
    by : (t : Bool) → drop (length s - length (line_front s)) s ≡ line_front s → drop (suc (length s) - length (pick t (line_front s) (c ∷ s))) (c ∷ s) ≡ pick t (line_front s) (c ∷ s)
    by true e =
        let l = front_low s in
        let q : suc (length s) - length (line_front s) ≡ suc (length s - length (line_front s)) = omega arith in
        rw q e
    by false e =
        let q : suc (length s) - suc (length s) ≡ 0 = omega arith in
        rw q

-- the bytes before the next one

pub rest_low : (s : List ℕ) → length (line_rest s) ≤ length s
unfolding line_rest
rest_low [] = omega arith
rest_low (c ∷ s) = by (eqb c 10) (rest_low s)
  where
    by : (t : Bool) → length (line_rest s) ≤ length s → length (pick t [] (c ∷ line_rest s)) ≤ suc (length s)
    by true h = omega arith
    by false h = omega arith

-- they are the first of s
rest_take : (s : List ℕ) → take (length (line_rest s)) s ≡ line_rest s
unfolding line_rest
rest_take [] = refl
rest_take (c ∷ s) = by (eqb c 10) (rest_take s)
  where
    by : (t : Bool) → take (length (line_rest s)) s ≡ line_rest s → take (length (pick t [] (c ∷ line_rest s))) (c ∷ s) ≡ pick t [] (c ∷ line_rest s)
    by true e = refl
    by false e = ap (λ (l : List ℕ). c ∷ l) e

module _ (s : List ℕ) (i : ℕ) where
  pub rest_feed : i < length s → get_or s i 0 ≡ 10 → length (line_rest (drop i s)) ≡ 0
  unfolding line_rest
  rest_feed h e = rw (drop-cons s i 0, eq-eqb _ _ e)

  pub rest_more : i < length s → (get_or s i 0 ≡ 10 → ⊥) → length (line_rest (drop i s)) ≡ suc (length (line_rest (drop (i + 1) s)))
  unfolding line_rest
  rest_more h e = rw (add-one, drop-cons s i 0, ne_eqb _ _ e)

  pub rest_none : length s ≤ i → length (line_rest (drop i s)) ≡ 0
  unfolding line_rest
  rest_none h = rw (drop_of_length-le s h)

-- both together

pub parts_long : (log : List ℕ) (place : ℕ) → length (take place log) + length (drop place log) ≡ length log
parts_long log place = sym (length-append (take place log) (drop place log)) ∙ ap length (take-append-drop place log)

pub line_parts : (log : List ℕ) (place : ℕ)
    → drop (length (take place log) - length (line_front (take place log))) (take (length (take place log) + length (line_rest (drop place log))) log) ≡ line_at log place
unfolding line_at front_at
line_parts log place =
    let a = take place log in
    let b = drop place log in
    let k = length (line_rest b) in
    let m = length a - length (line_front a) in
    let e : take (length a + k) log ≡ a ++ take k b = ap (take (length a + k)) (sym (take-append-drop place log)) ∙ take-append-add a b k in
    ap (drop m) e
    ∙ (drop-append-le m a (take k b) (omega arith)
    ∙ ap₂ (λ (x y : List ℕ). x ++ y) (front_drop a) (rest_take b))
