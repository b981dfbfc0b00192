-- A number that has no words of its own. Assumes nothing.
use Prim.Native.Nat.{ℕ, ◌+◌, ◌≤◌, ◌<◌}
use native.Mathlib.Omega.{arith}
use mathlib.Core.Path.{◌≡◌, refl, sym, ◌∙◌}
use mathlib.Core.Bool.{Bool, true, not}
use mathlib.Core.List.{List}
use lib.Dec.{eqb, leb}
use borrow.Author.Tests.{ne_eqb, leb-true, eqb-false, not-true}
use Rattle.arith.specs.Pick.{pick, both}
use Rattle.arith.proofs.PickLaws.{both_left, both_right}
use Rattle.text.specs.Ascii.{bytes}
use Rattle.perch_reasons.specs.Reasons.{reason_text}

-- which numbers have words
abbrev worded : ℕ → Bool
worded k = both (leb 1 k) (both (leb k 36) (not (eqb k 6)))

past : {n : ℕ} (k : ℕ) (a : List ℕ) {b t : List ℕ} → (n ≡ k → ⊥) → b ≡ t → pick (eqb n k) a b ≡ t
past {n} k a h e = rw (ne_eqb n k h) e

unworded : (n : ℕ) → ((k : ℕ) → worded k ≡ true → n ≡ k → ⊥) → reason_text n ≡ bytes "refused"
unfolding reason_text
unworded n h =
    past 1 _ (h 1 refl)
    (past 2 _ (h 2 refl)
    (past 3 _ (h 3 refl)
    (past 4 _ (h 4 refl)
    (past 5 _ (h 5 refl)
    (past 7 _ (h 7 refl)
    (past 8 _ (h 8 refl)
    (past 9 _ (h 9 refl)
    (past 10 _ (h 10 refl)
    (past 11 _ (h 11 refl)
    (past 12 _ (h 12 refl)
    (past 13 _ (h 13 refl)
    (past 14 _ (h 14 refl)
    (past 15 _ (h 15 refl)
    (past 16 _ (h 16 refl)
    (past 17 _ (h 17 refl)
    (past 18 _ (h 18 refl)
    (past 19 _ (h 19 refl)
    (past 20 _ (h 20 refl)
    (past 21 _ (h 21 refl)
    (past 22 _ (h 22 refl)
    (past 23 _ (h 23 refl)
    (past 24 _ (h 24 refl)
    (past 25 _ (h 25 refl)
    (past 26 _ (h 26 refl)
    (past 27 _ (h 27 refl)
    (past 28 _ (h 28 refl)
    (past 29 _ (h 29 refl)
    (past 30 _ (h 30 refl)
    (past 31 _ (h 31 refl)
    (past 32 _ (h 32 refl)
    (past 33 _ (h 33 refl)
    (past 34 _ (h 34 refl)
    (past 35 _ (h 35 refl)
    (past 36 _ (h 36 refl) refl))))))))))))))))))))))))))))))))))

pub next : (b n : ℕ) → b ≤ n → (n ≡ b → ⊥) → b + 1 ≤ n
next b n h a = omega arith

pub only : (b n : ℕ) → b ≤ n → n < b + 1 → n ≡ b
only b n h l = omega arith

clash : {b n : ℕ} → b ≤ n → n < b → ⊥
clash h l = omega arith

pub below : (n : ℕ) → n < 8 → (n ≡ 1 → ⊥) → (n ≡ 2 → ⊥) → (n ≡ 3 → ⊥) → (n ≡ 4 → ⊥) → (n ≡ 5 → ⊥) → (n ≡ 7 → ⊥)
    → reason_text n ≡ bytes "refused"
below n less a b c d f g = unworded n each
  where
    each : (k : ℕ) → worded k ≡ true → n ≡ k → ⊥
    each k w e =
        let r = both_right (leb 1 k) _ w in
        let low = leb-true 1 k (both_left (leb 1 k) _ w) in
        let six = eqb-false k 6 (not-true (eqb k 6) (both_right (leb k 36) _ r)) in
        let least : 1 ≤ n = rw e low in
        let five = next 5 n (next 4 n (next 3 n (next 2 n (next 1 n least a) b) c) d) f in
        clash (next 7 n (next 6 n five (λ s. six (sym e ∙ s))) g) less

pub above : (n : ℕ) → 32 ≤ n → (n ≡ 32 → ⊥) → (n ≡ 33 → ⊥) → (n ≡ 34 → ⊥) → (n ≡ 35 → ⊥) → (n ≡ 36 → ⊥) → reason_text n ≡ bytes "refused"
above n more a b c d f = unworded n each
  where
    each : (k : ℕ) → worded k ≡ true → n ≡ k → ⊥
    each k w e =
        let high = leb-true k 36 (both_left (leb k 36) _ (both_right (leb 1 k) _ w)) in
        let far = next 36 n (next 35 n (next 34 n (next 33 n (next 32 n more a) b) c) d) f in
        omega arith
