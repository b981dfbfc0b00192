-- The length's range: the test, the facts that it stands for, and that every operation keeps it. Assumes nothing.
use Prim.Native.Nat.{ℕ, ◌/◌, ◌≤◌, ◌<◌}
use mathlib.Core.Path.{◌≡◌, refl}
use mathlib.Core.Bool.{Bool, true, false}
use native.Mathlib.Omega.{arith}
use lib.Dec.{leb, eqb, leb→le}
use lib.ListN.{get_or}
use borrow.Author.Tests.{leb-true, le-leb, eqb-true, eq-eqb}
use Rattle.arith.specs.Pick.{pick}
use Rattle.arith.proofs.PickLaws.{both_left, both_right, both_true, pick_both}
use Rattle.arith.proofs.TableLaws.{at}
use Rattle.chip_length.specs.Length.{lengths, length_of, length_loaded, length_clock, length_enabled, length_in}
use Rattle.chip_length.specs.declared.Length.{Length}

pub record LengthRanged (l : Length) : Type 0 where
  pub count : l.count ≤ 254
  pub idle : l.enabled ≡ false → l.count ≡ 0

pub length_in_lem : (l : Length) → length_in l ≡ true → LengthRanged l
unfolding length_in
length_in_lem l e = record { count = search (both_left, both_right, leb-true); idle = go l.enabled (both_right (leb l.count 254) _ e) }
  where
    go : (t : Bool) → pick t true (eqb l.count 0) ≡ true → t ≡ false → l.count ≡ 0
    go true e f = absurd (let z : ◌≡◌ {A = ℕ} 0 1 = cc in let no : ⊥ = omega arith in no)
    go false e f = eqb-true _ _ e

pub length_back : (l : Length) → LengthRanged l → length_in l ≡ true
unfolding length_in
length_back l h = both_true (leb l.count 254) _ (le-leb _ _ h.count) (go l.enabled h.idle)
  where
    go : (t : Bool) → (t ≡ false → l.count ≡ 0) → pick t true (eqb l.count 0) ≡ true
    go true f = refl
    go false f = eq-eqb _ _ (f refl)

pub length_clocked : (halt : Bool) (l : Length) → LengthRanged l → LengthRanged (length_clock halt l)
unfolding length_clock
length_clocked halt l h =
    record {
      count = pick_both (λ (k : ℕ). k ≤ 254) halt h.count (omega (arith, h.count));
      idle = λ e. pick_both (λ (k : ℕ). k ≡ 0) halt (h.idle e) (omega (arith, h.idle e));
    }

-- every entry of the table is a length
table_most : (k : ℕ) → k < 32 → get_or lengths k 0 ≤ 254
table_most k h = leb→le (get_or lengths k 0) 254 (at (λ i x. leb x 254) lengths tt k h)

length_of_most : (v : ℕ) → v ≤ 255 → length_of v ≤ 254
length_of_most v h = table_most (v / 8) (omega arith)

pub length_loaded_lem : (v : ℕ) (l : Length) → v ≤ 255 → LengthRanged l → LengthRanged (length_loaded v l)
unfolding length_loaded
length_loaded_lem v l b h =
    record {
      count = pick_both (λ (k : ℕ). k ≤ 254) l.enabled (length_of_most v b) h.count;
      idle = λ e. rw e (h.idle e);
    }

pub length_enabled_lem : (on : Bool) (l : Length) → LengthRanged l → LengthRanged (length_enabled on l)
unfolding length_enabled
length_enabled_lem true l h = record { count = h.count; idle = λ e. absurd (let z : ◌≡◌ {A = ℕ} 0 1 = cc in let no : ⊥ = omega arith in no) }
length_enabled_lem false l h = record { count = omega arith; idle = λ e. refl }
