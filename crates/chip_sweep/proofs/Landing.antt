-- Where a sweep lands: its target is -1..4094, and where it isn't muted and shifts at all it is a period. Assumes nothing.
use mathlib.Core.Path.{◌≡◌, refl, sym, ap}
use mathlib.Core.Bool.{Bool, true, false, cond, not, true≢false}
use Prim.Native.Nat.{ℕ, zero, suc, ◌+◌, ◌-◌, ◌*◌, ◌/◌, ◌<◌, ◌≤◌, ◌^◌}
use native.Mathlib.Nat.{le_trans, mul-le-mul_right, mul-div-le, div-le_self}
use native.Mathlib.Omega.{arith}
use lib.IntN.{ℤ, pos, negsuc, ◌+ℤ◌, +ℤ_one, nat_abs, sub_ℕ}
use lib.Signed.{non_neg, lt_z, le_z}
use lib.Dec.{T, ltb, le→leb}
use lib.Pow.{pow_mono}
use borrow.Author.Tests.{le-ltb, ltb-true, ltb-false}
use Rattle.arith.specs.Pick.{either}
use Rattle.arith.proofs.PickLaws.{both_left, both_right}
use Rattle.chip_sweep.specs.Sweep.{move_of, target, low_period, high_target, muted, sweeps}
use Rattle.chip_sweep.specs.declared.Sweep.{Sweep}

-- square 2's negated target is the plain difference
plain : (p q : ℕ) → pos p +ℤ (negsuc q +ℤ pos 1) ≡ sub_ℕ p q
plain p zero = rw (le-ltb p 0 (omega arith)) (ap pos (omega arith))
plain p (suc q) = rw (+ℤ_one (negsuc (suc q))) refl

either_left : (a b : Bool) → either a b ≡ false → a ≡ false
either_left true b e = e
either_left false b e = refl

either_right : (a b : Bool) → either a b ≡ false → b ≡ false
either_right true b e = absurd (true≢false e)
either_right false b e = e

pub record Period (z : ℤ) : Type 0 where
  pub positive : T (non_neg z)
  pub low : nat_abs z < 2048

-- at least half of the period stays
half : (p s : ℕ) → 0 < s → 2 * (p / 2 ^ s) ≤ p
half p s h = le_trans (mul-le-mul_right (p / 2 ^ s) (pow_mono h)) (mul-div-le p (2 ^ s))

falls : (a b : ℕ) (t : Bool) → b ≤ a → ltb a b ≡ t → lt_z (pos 2047) (cond t (negsuc (b - suc a)) (pos (a - b))) ≡ false
    → Period (cond t (negsuc (b - suc a)) (pos (a - b)))
falls a b true h e m = absurd (let f : a < b = ltb-true a b e in let no : ⊥ = omega arith in no)
falls a b false h e m = let l : a - b ≤ 2047 = ltb-false 2047 (a - b) m in record { positive = tt; low = omega arith }

lands_on : (second negate : Bool) (p s : ℕ) → 0 < s → 8 ≤ p
    → lt_z (pos 2047) (pos p +ℤ move_of second negate (p / 2 ^ s)) ≡ false → Period (pos p +ℤ move_of second negate (p / 2 ^ s))
lands_on second false p s hs hp m =
    let l : p + p / 2 ^ s ≤ 2047 = ltb-false 2047 _ m in
    record { positive = tt; low = omega arith }
lands_on false true p s hs hp m = falls p (suc (p / 2 ^ s)) (ltb p (suc (p / 2 ^ s))) (omega (arith, half p s hs)) refl m
lands_on true true p s hs hp m =
    rw plain (falls p (p / 2 ^ s) (ltb p (p / 2 ^ s)) (omega (arith, half p s hs)) refl (rw plain at m))

-- A SWEEP THAT IS NOT MUTED LANDS ON A PERIOD, whatever period it starts from
pub lands : (second : Bool) (w : Sweep) (p : ℕ) → 0 < w.shift → muted second w p ≡ false → Period (target second w p)
unfolding muted low_period high_target target
lands second w p hs m =
    lands_on second w.negate p w.shift hs (ltb-false p 8 (either_left (ltb p 8) _ m)) (either_right (ltb p 8) _ m)

not_true : (t : Bool) → not t ≡ true → t ≡ false
not_true true e = sym e
not_true false e = refl

-- so does one that moves the period
pub moves_to : (second : Bool) (w : Sweep) (p : ℕ) → sweeps second w p ≡ true → Period (target second w p)
unfolding sweeps
moves_to second w p e =
    let shifts : ltb 0 w.shift ≡ true = search (both_left, both_right) in
    let free : not (muted second w p) ≡ true = search (both_left, both_right) in
    lands second w p (ltb-true 0 w.shift shifts) (not_true (muted second w p) free)

pub record Target (z : ℤ) : Type 0 where
  pub least : T (le_z (negsuc 0) z)
  pub most : T (le_z z (pos 4094))

differs : (a b : ℕ) (t : Bool) → ltb a b ≡ t → b ≤ suc a → a < 2048 → Target (cond t (negsuc (b - suc a)) (pos (a - b)))
differs a b true e h k = record { least = le→leb (b - suc a) 0 (omega arith); most = tt }
differs a b false e h k = record { least = tt; most = le→leb (a - b) 4094 (omega arith) }

target_moved : (second negate : Bool) (p s : ℕ) → p < 2048 → Target (pos p +ℤ move_of second negate (p / 2 ^ s))
target_moved second false p s h =
    let q = div-le_self p (2 ^ s) in
    record { least = tt; most = le→leb (p + p / 2 ^ s) 4094 (omega arith) }
target_moved false true p s h =
    let q = div-le_self p (2 ^ s) in
    differs p (suc (p / 2 ^ s)) (ltb p (suc (p / 2 ^ s))) refl (omega arith) h
target_moved true true p s h =
    let q = div-le_self p (2 ^ s) in
    rw plain (differs p (p / 2 ^ s) (ltb p (p / 2 ^ s)) refl (omega arith) h)

-- THE TARGET IS FROM -1 TO 4094
pub target_range : (second : Bool) (w : Sweep) (p : ℕ) → p ≤ 2047 → Target (target second w p)
unfolding target
target_range second w p h = target_moved second w.negate p w.shift (omega arith)
