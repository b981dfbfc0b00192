-- What each answer says of the list, and that it is the only answer of which that holds. Assumes nothing.
use Prim.Native.Nat.{ℕ, min, max, ◌-◌, ◌≤◌, ◌<◌}
use mathlib.Core.Path.{◌≡◌, refl, sym, ap, subst, ◌∙◌}
use mathlib.Core.Bool.{Bool, true, false}
use mathlib.Core.List.{List, [], ◌∷◌}
use native.Mathlib.Omega.{arith}
use borrow.Author.Tests.{ltb-true, ltb-false, eqb-true, eqb-false}
use lib.Dec.{eqb, ltb}
use lib.ListN.{length, get_or, take, drop}
use lib.Seq.{take_all}
use Rattle.arith.specs.Pick.{pick}
use Rattle.meter.specs.declared.Metering.{Metering}
use Rattle.meter.specs.declared.Metering.TheVariants.{Refused, NoLevels, Silent, Steady, Moving}
use Rattle.meter.specs.Levels.{any_above, all_are, lowest, highest}
use Rattle.meter.specs.Measure.{measure_of}
use Rattle.meter.specs.Says.{All, and, Some, here, Says, MeterSays, MeterOnly}
use Rattle.meter.specs.Spans.{told_of}
use Rattle.meter.proofs.Lists.{all_map, all_first, all_rest, some_map, some_length, met, any_true_lem, any_false, all_true, all_false, lowest_occurs, highest_occurs, bounds}

by_true : (t : Bool) → (t ≡ false → ⊥) → t ≡ true
by_true true h = refl
by_true false h = absurd (h refl)

by_false : (t : Bool) → (t ≡ true → ⊥) → t ≡ false
by_false true h = absurd (h refl)
by_false false h = refl

above : (l : List ℕ) → Some (λ y. 32767 < y) l → any_above l ≡ true
above l s = by_true (any_above l) (λ e. met (any_false (λ x. ltb 32767 x) l e) s (λ x p q. let h = ltb-false 32767 x p in omega arith))

none_above : (l : List ℕ) → All (λ y. y ≤ 32767) l → any_above l ≡ false
none_above l a = by_false (any_above l) (λ e. met a (any_true_lem (λ x. ltb 32767 x) l e) (λ x p q. let h = ltb-true 32767 x q in omega arith))

are : (v : ℕ) (l : List ℕ) → All (λ y. y ≡ v) l → all_are v l ≡ true
are v l a = by_true (all_are v l) (λ e. met a (all_false (λ x. eqb x v) l e) (λ x p q. eqb-false x v q p))

are_not : (v : ℕ) (l : List ℕ) → Some (λ y. y ≡ v → ⊥) l → all_are v l ≡ false
are_not v l s = by_false (all_are v l) (λ e. met (all_true (λ x. eqb x v) l e) s (λ x p q. q (eqb-true x v p)))

module _ (x : ℕ) (l : List ℕ) (a b : ℕ) (s : Says (x ∷ l) (Moving a b)) where
  not_silent : all_are 0 (x ∷ l) ≡ false
  not_silent = are_not 0 (x ∷ l) (some_map (λ y e h. omega (arith, s.0)) s.3)

  not_steady : all_are x l ≡ false
  not_steady =
      by_false (all_are x l)
      (λ e.
      let same : All (λ y. y ≡ x) (x ∷ l) = and refl (all_map (λ y q. eqb-true y x q) (all_true (λ y. eqb y x) l e)) in
      let p : a ≡ x = met same s.2 (λ y p q. sym q ∙ p) in
      let q : b ≡ x = met same s.3 (λ y p q. sym q ∙ p) in
      omega (arith, s.0))

  its_lowest : a ≡ lowest x l
  its_lowest =
      let p : lowest x l ≤ a = met (bounds x l) s.2 (λ y p q. omega (arith, p.0)) in
      let q : a ≤ lowest x l = met s.4 (lowest_occurs x l) (λ y p q. omega (arith, p.0)) in
      omega arith

  its_highest : b ≡ highest x l
  its_highest =
      let p : b ≤ highest x l = met (bounds x l) s.3 (λ y p q. omega (arith, p.1)) in
      let q : highest x l ≤ b = met s.4 (highest_occurs x l) (λ y p q. omega (arith, p.1)) in
      omega arith

-- NO OTHER ANSWER SAYS WHAT IS SO
pub only : MeterOnly
unfolding measure_of
only [] (Refused k) s = absurd (omega (arith, some_length s.1))
only [] NoLevels s = refl
only [] Silent s = absurd (omega (arith, s.0))
only [] (Steady v) s = absurd (omega (arith, s.0))
only [] (Moving a b) s = absurd (omega (arith, some_length s.2))
only (x ∷ l) (Refused k) s = rw (above (x ∷ l) s.1, s.0)
only (x ∷ l) NoLevels s = cc
only (x ∷ l) Silent s = rw (none_above (x ∷ l) (all_map (λ y e. omega arith) s.1), are 0 (x ∷ l) s.1)
only (x ∷ l) (Steady v) s =
    let e : x ≡ v = all_first s.1 in
    rw (none_above (x ∷ l) (all_map (λ y q. omega (arith, s.3)) s.1), are_not 0 (x ∷ l) (here (λ q. omega (arith, s.2))), are x l (all_map (λ y q. q ∙ sym e) (all_rest s.1))) (ap Steady (sym e))
only (x ∷ l) (Moving a b) s =
    rw (none_above (x ∷ l) (all_map (λ y q. omega (arith, s.1, q.1)) s.4), not_silent x l a b s, not_steady x l a b s, ← its_lowest x l a b s, ← its_highest x l a b s)

module _ (m : List ℕ) (low high : ℕ) (p : Some (λ y. y ≡ low) m) (q : Some (λ y. y ≡ high) m) (bound : All (λ y. (low ≤ y) × (y ≤ high)) m) where
  told_says : (a b c : Bool) → ltb 32767 high ≡ a → ltb low high ≡ b → eqb high 0 ≡ c
      → Says m (pick a (Refused 29) (pick b (Moving low high) (pick c Silent (Steady high))))
  told_says true b c e f g = let h = ltb-true 32767 high e in (refl, some_map (λ y r. omega arith) q)
  told_says false true c e f g = (ltb-true low high f, ltb-false 32767 high e, p, q, bound)
  told_says false false true e f g =
      let h = eqb-true high 0 g in
      (some_length p, all_map (λ y r. omega (arith, r.1)) bound)
  told_says false false false e f g =
      let h = ltb-false low high f in
      let k = eqb-false high 0 g in
      (some_length p, all_map (λ y r. omega (arith, r.0, r.1)) bound, omega arith, ltb-false 32767 high e)

told_so : (x : ℕ) (l : List ℕ) → Says (x ∷ l) (told_of (lowest x l) (highest x l))
unfolding told_of
told_so x l =
    let low = lowest x l in
    let high = highest x l in
    told_says (x ∷ l) low high (lowest_occurs x l) (highest_occurs x l) (bounds x l) (ltb 32767 high) (ltb low high) (eqb high 0) refl refl refl

-- what the code tells from the lowest and the highest is the answer
pub told_is : (x : ℕ) (l : List ℕ) → told_of (lowest x l) (highest x l) ≡ measure_of (x ∷ l)
told_is x l = only (x ∷ l) (told_of (lowest x l) (highest x l)) (told_so x l)

-- also where the first level is counted twice
pub told_first : (l : List ℕ) → 0 < length l → told_of (lowest (get_or l 0 0) l) (highest (get_or l 0 0) l) ≡ measure_of l
unfolding lowest highest
told_first [] h = absurd (omega arith)
told_first (x ∷ l) h =
    let e : min x x ≡ x = omega arith in
    let f : max x x ≡ x = omega arith in
    rw (e, f) (told_is x l)

-- by the first level and the rest
pub told_rest : (l : List ℕ) → 0 < length l
    → told_of (lowest (get_or l 0 0) (take (length l - 1) (drop 1 l))) (highest (get_or l 0 0) (take (length l - 1) (drop 1 l))) ≡ measure_of l
told_rest [] h = absurd (omega arith)
told_rest (x ∷ l) h = rw (take_all (length (x ∷ l) - 1) l (omega arith)) (told_is x l)

pub empty : (l : List ℕ) → length l ≡ 0 → NoLevels ≡ measure_of l
unfolding measure_of
empty [] h = refl
empty (x ∷ l) h = absurd (omega arith)

-- EACH ANSWER SAYS WHAT IS SO
pub says : MeterSays
unfolding measure_of
says [] = refl
says (x ∷ l) = subst (λ (r : Metering ℕ). Says (x ∷ l) r) (told_is x l) (told_so x l)
