-- What one byte more does to each loop of the code. Assumes nothing.
use mathlib.Core.Path.{◌≡◌, refl, ap, sym, ◌∙◌}
use mathlib.Core.List.{List, [], ◌∷◌}
use mathlib.Core.Bool.{Bool, true, false}
use Prim.Native.Nat.{ℕ, suc, ◌+◌, ◌-◌, ◌*◌, ◌≤◌, ◌<◌, min}
use native.Mathlib.Omega.{arith}
use native.Mathlib.Numerals.{add-one}
use borrow.Author.Tests.{eq-eqb, ne_eqb, le-leb, lt-leb, leb-true, lt-ltb, le-ltb}
use Rattle.std.specs.Prelude.{Some, None}
use lib.ListN.{length, get_or, drop, length-drop, take, drop_of_length-le}
use lib.Seq.{drop-cons}
use lib.Dec.{leb, ltb}
use Rattle.arith.specs.Pick.{pick, both}
use Rattle.arith.proofs.PickLaws.{both_left, both_right, pick_true, pick_false}
use Rattle.text.specs.Decimal.{digit}
use Rattle.text.proofs.KeyLaws.{take_rest}
use Rattle.text.proofs.NumberLaws.{pick_some, pick_none}
use Rattle.log_form.specs.Forms.{suits, nothing, along, goes_on, begins_number, reach}
use Rattle.log_form.specs.Matching.{common}
use Rattle.log_form.proofs.ReachLaws.{reach_nothing, reach_length, reach_along}

-- A FORM

module _ (form l : List ℕ) (i : ℕ) (hf : i < length form) (hl : i < length l) where
  pub common_suits : suits (get_or form i 0) (get_or l i 0) ≡ true → common (drop i form) (drop i l) ≡ suc (common (drop (i + 1) form) (drop (i + 1) l))
  unfolding common
  common_suits e = rw (add-one, drop-cons form i 0, drop-cons l i 0, e)

  pub common_other : suits (get_or form i 0) (get_or l i 0) ≡ false → common (drop i form) (drop i l) ≡ 0
  unfolding common
  common_other e = rw (drop-cons form i 0, drop-cons l i 0, e)

pub common_end : (form s : List ℕ) (i : ℕ) → length form ≤ i → common (drop i form) s ≡ 0
unfolding common
common_end form s i h = rw (drop_of_length-le form h)

common_none : (form : List ℕ) → common form [] ≡ 0
unfolding common
common_none [] = refl
common_none (f ∷ form) = refl

pub common_short : (form l : List ℕ) (i : ℕ) → length l ≤ i → common form (drop i l) ≡ 0
common_short form l i h = rw (drop_of_length-le l h) (common_none form)

pub common_length : (form l : List ℕ) → common form l ≤ length l
unfolding common
common_length [] l = omega arith
common_length (f ∷ form) [] = omega arith
common_length (f ∷ form) (c ∷ l) = go (suits f c) (common_length form l)
  where
    go : (b : Bool) → common form l ≤ length l → pick b (suc (common form l)) 0 ≤ suc (length l)
    go true r = omega arith
    go false r = omega arith

-- what comparing byte by byte needs
pub ruleset form_steps = (common_suits, common_other, common_end, common_short)

-- A DECIMAL

module _ (lo hi n c : ℕ) (s : List ℕ) where
  goes_fed : c ≡ 10 → lo ≤ n → reach (goes_on lo hi n) (c ∷ s) ≡ 1
  unfolding reach goes_on nothing
  goes_fed e l = rw (eq-eqb c 10 e, le-leb lo n l) (ap suc (reach_nothing s))

  goes_early : c ≡ 10 → n < lo → reach (goes_on lo hi n) (c ∷ s) ≡ 0
  unfolding reach goes_on
  goes_early e l = rw (eq-eqb c 10 e, lt-leb lo n l)

  goes_more : (c ≡ 10 → ⊥) → both (digit c) (both (ltb 0 n) (leb (n * 10 + (c - 48)) hi)) ≡ true
      → reach (goes_on lo hi n) (c ∷ s) ≡ suc (reach (goes_on lo hi (n * 10 + (c - 48))) s)
  unfolding reach goes_on
  goes_more z e =
      let a = both_left (digit c) _ e in
      let f = both_right (digit c) _ e in
      rw (ne_eqb c 10 z, a, both_left (ltb 0 n) _ f, both_right (ltb 0 n) _ f)

  goes_stop : (c ≡ 10 → ⊥) → both (digit c) (both (ltb 0 n) (leb (n * 10 + (c - 48)) hi)) ≡ false → reach (goes_on lo hi n) (c ∷ s) ≡ 0
  unfolding reach goes_on
  goes_stop z e = rw (ne_eqb c 10 z) (go (digit c) (ltb 0 n) (leb (n * 10 + (c - 48)) hi) e)
    where
      go : (x y w : Bool) → both x (both y w) ≡ false
          → pick (both x (both y (both w true))) (suc (reach (λ t. both x (both y (both w (goes_on lo hi (n * 10 + (c - 48)) t)))) s)) 0 ≡ 0
      go true true true e = absurd (let z : ◌≡◌ {A = ℕ} 0 1 = cc in omega arith)
      go true true false e = refl
      go true false w e = refl
      go false y w e = refl

  number_more : both (digit c) (both (leb (min lo 1) (c - 48)) (leb (c - 48) hi)) ≡ true → reach (begins_number lo hi) (c ∷ s) ≡ suc (reach (goes_on lo hi (c - 48)) s)
  unfolding reach begins_number goes_on
  number_more e =
      let a = both_left (digit c) _ e in
      let f = both_right (digit c) _ e in
      rw (a, both_left (leb (min lo 1) (c - 48)) _ f, both_right (leb (min lo 1) (c - 48)) _ f)

  number_stop : both (digit c) (both (leb (min lo 1) (c - 48)) (leb (c - 48) hi)) ≡ false → reach (begins_number lo hi) (c ∷ s) ≡ 0
  unfolding reach begins_number goes_on
  number_stop e = go (digit c) (leb (min lo 1) (c - 48)) (leb (c - 48) hi) e
    where
      go : (x y w : Bool) → both x (both y w) ≡ false
          → pick (both x (both y (both w true))) (suc (reach (λ t. both x (both y (both w (goes_on lo hi (c - 48) t)))) s)) 0 ≡ 0
      go true true true e = absurd (let z : ◌≡◌ {A = ℕ} 0 1 = cc in omega arith)
      go true true false e = refl
      go true false w e = refl
      go false y w e = refl

-- the same from a place of s on
module _ (lo hi n : ℕ) (s : List ℕ) (i : ℕ) (h : i < length s) where
  pub at_fed : get_or s i 0 ≡ 10 → lo ≤ n → reach (goes_on lo hi n) (drop i s) ≡ 1
  at_fed e l = rw (drop-cons s i 0) (goes_fed lo hi n (get_or s i 0) (drop (suc i) s) e l)

  pub at_early : get_or s i 0 ≡ 10 → n < lo → reach (goes_on lo hi n) (drop i s) ≡ 0
  at_early e l = rw (drop-cons s i 0) (goes_early lo hi n (get_or s i 0) (drop (suc i) s) e l)

  pub at_next : (v : ℕ) → (get_or s i 0 ≡ 10 → ⊥)
      → pick (both (digit (get_or s i 0)) (both (ltb 0 n) (leb (n * 10 + (get_or s i 0 - 48)) hi))) (Some (n * 10 + (get_or s i 0 - 48))) None ≡ Some v
      → reach (goes_on lo hi n) (drop i s) ≡ suc (reach (goes_on lo hi v) (drop (i + 1) s))
  at_next v z e =
      let q = pick_some _ _ v e in
      rw (← q.1, add-one, drop-cons s i 0) (goes_more lo hi n (get_or s i 0) (drop (suc i) s) z q.0)

  pub at_stop : (get_or s i 0 ≡ 10 → ⊥)
      → pick (both (digit (get_or s i 0)) (both (ltb 0 n) (leb (n * 10 + (get_or s i 0 - 48)) hi))) (Some (n * 10 + (get_or s i 0 - 48))) None ≡ None
      → reach (goes_on lo hi n) (drop i s) ≡ 0
  at_stop z e = rw (drop-cons s i 0) (goes_stop lo hi n (get_or s i 0) (drop (suc i) s) z (pick_none _ _ e))

pub next_high : (hi n c v : ℕ) → pick (both (digit c) (both (ltb 0 n) (leb (n * 10 + (c - 48)) hi))) (Some (n * 10 + (c - 48))) None ≡ Some v → v ≤ hi
next_high hi n c v e =
    let q = pick_some _ _ v e in
    rw (← q.1) (leb-true (n * 10 + (c - 48)) hi (both_right (ltb 0 n) _ (both_right (digit c) _ q.0)))

pub at_end : (f : List ℕ → Bool) (s : List ℕ) (i : ℕ) → length s ≤ i → reach f (drop i s) ≡ 0
unfolding reach
at_end f s i h = rw (drop_of_length-le s h)

-- what reading digit by digit needs
pub ruleset number_steps = (at_fed, at_early, at_next, at_stop, at_end, next_high)

module _ (lo hi : ℕ) (s : List ℕ) where
  pub number_none : length s < 1 → reach (begins_number lo hi) s ≡ 0
  number_none h = let l = reach_length (begins_number lo hi) s in omega arith

  pub number_digit : (v : ℕ) → 1 ≤ length s
      → pick (both (digit (get_or s 0 0)) (both (leb (min lo 1) (get_or s 0 0 - 48)) (leb (get_or s 0 0 - 48) hi))) (Some (get_or s 0 0 - 48)) None ≡ Some v
      → 1 + reach (goes_on lo hi v) (take (length s - 1) (drop 1 s)) ≡ reach (begins_number lo hi) s
  number_digit v h e = let q = pick_some _ _ v e in rw (take_rest 1 s, ← q.1) (sym (go s h q.0))
    where
      go : (s : List ℕ) → 1 ≤ length s → both (digit (get_or s 0 0)) (both (leb (min lo 1) (get_or s 0 0 - 48)) (leb (get_or s 0 0 - 48) hi)) ≡ true
          → reach (begins_number lo hi) s ≡ 1 + reach (goes_on lo hi (get_or s 0 0 - 48)) (drop 1 s)
      go [] h e = absurd (omega arith)
      go (c ∷ s) h e = number_more lo hi 0 c s e ∙ omega arith

  pub number_other : 1 ≤ length s
      → pick (both (digit (get_or s 0 0)) (both (leb (min lo 1) (get_or s 0 0 - 48)) (leb (get_or s 0 0 - 48) hi))) (Some (get_or s 0 0 - 48)) None ≡ None
      → reach (begins_number lo hi) s ≡ 0
  number_other h e = go s h (pick_none _ _ e)
    where
      go : (s : List ℕ) → 1 ≤ length s → both (digit (get_or s 0 0)) (both (leb (min lo 1) (get_or s 0 0 - 48)) (leb (get_or s 0 0 - 48) hi)) ≡ false
          → reach (begins_number lo hi) s ≡ 0
      go [] h e = absurd (omega arith)
      go (c ∷ s) h e = number_stop lo hi 0 c s e

pub first_high : (lo hi c v : ℕ) → pick (both (digit c) (both (leb (min lo 1) (c - 48)) (leb (c - 48) hi))) (Some (c - 48)) None ≡ Some v → v ≤ hi
first_high lo hi c v e =
    let q = pick_some _ _ v e in
    rw (← q.1) (leb-true (c - 48) hi (both_right (leb (min lo 1) (c - 48)) _ (both_right (digit c) _ q.0)))

-- what reading the first digit needs
pub ruleset first_steps = (number_none, number_digit, number_other, first_high, reach_length)

-- A KEY AND ITS DECIMAL

common_form : (form l : List ℕ) → common form l ≤ length form
unfolding common
common_form [] l = omega arith
common_form (f ∷ form) [] = omega arith
common_form (f ∷ form) (c ∷ l) = go (suits f c) (common_form form l)
  where
    go : (b : Bool) → common form l ≤ length form → pick b (suc (common form l)) 0 ≤ suc (length form)
    go true r = omega arith
    go false r = omega arith

module _ (lo hi : ℕ) (key l : List ℕ) where
  pub keyed_short : common key l < length key → reach (along key (begins_number lo hi)) l ≡ common key l
  unfolding begins_number
  keyed_short h = reach_along key (begins_number lo hi) l refl ∙ pick_true _ _ _ (lt-ltb (common key l) (length key) h)

  pub keyed_long : length key ≤ common key l
      → reach (along key (begins_number lo hi)) l ≡ common key l + reach (begins_number lo hi) (drop (common key l) l)
  unfolding begins_number
  keyed_long h =
      let e : common key l ≡ length key = omega (arith, common_form key l) in
      rw e (reach_along key (begins_number lo hi) l refl ∙ pick_false _ _ _ (le-ltb (common key l) (length key) h))

  pub keyed_fits : common key l + reach (begins_number lo hi) (drop (common key l) l) ≤ length l
  keyed_fits =
      let u = reach_length (begins_number lo hi) (drop (common key l) l) in
      omega (arith, length-drop (common key l) l, common_length key l)

-- what reading a key and its decimal needs
pub ruleset keyed_steps = (take_rest, common_length, keyed_short, keyed_long, keyed_fits)
