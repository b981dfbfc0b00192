-- The linear counter's range: the test, the facts that it stands for, and that every operation keeps it. Assumes nothing.
use Prim.Native.Nat.{ℕ, ◌≤◌}
use mathlib.Core.Path.{◌≡◌}
use mathlib.Core.Bool.{true}
use native.Mathlib.Omega.{arith}
use borrow.Author.Tests.{leb-true, le-leb}
use Rattle.arith.proofs.PickLaws.{both_left, both_right, both_true, pick_both}
use Rattle.chip_linear.specs.Linear.{linear_clock, linear_set, linear_halted, linear_in}
use Rattle.chip_linear.specs.declared.Linear.{Linear}

pub record LinearRanged (l : Linear) : Type 0 where
  pub reload : l.reload ≤ 127
  pub count : l.count ≤ 127

pub linear_in_lem : (l : Linear) → linear_in l ≡ true → LinearRanged l
unfolding linear_in
linear_in_lem l e = search (both_left, both_right, leb-true)

pub linear_back : (l : Linear) → LinearRanged l → linear_in l ≡ true
unfolding linear_in
linear_back l h = search (both_true, le-leb)

pub linear_clocked : (l : Linear) → LinearRanged l → LinearRanged (linear_clock l)
unfolding linear_clock
linear_clocked l h =
    record { reload = h.reload; count = pick_both (λ (k : ℕ). k ≤ 127) l.halt h.reload (omega (arith, h.count)) }

pub linear_set_lem : (v : ℕ) (l : Linear) → LinearRanged l → LinearRanged (linear_set v l)
unfolding linear_set
linear_set_lem v l h = record { reload = omega arith; count = h.count }

pub linear_halted_lem : (l : Linear) → LinearRanged l → LinearRanged (linear_halted l)
unfolding linear_halted
linear_halted_lem l h = record { reload = h.reload; count = h.count }
