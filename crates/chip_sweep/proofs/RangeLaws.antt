-- The sweep's range: the test, the facts that it stands for, and that every operation keeps it; a swept period stays a period. Assumes nothing.
use Prim.Native.Nat.{ℕ, ◌+◌, ◌%◌, ◌≤◌, ◌<◌}
use mathlib.Core.Path.{◌≡◌}
use mathlib.Core.Bool.{Bool, true}
use native.Mathlib.Omega.{arith}
use lib.IntN.{nat_abs}
use borrow.Author.Tests.{leb-true, le-leb}
use Rattle.arith.proofs.PickLaws.{both_left, both_right, both_true, pick_both, pick_each}
use Rattle.divider.specs.Divider.{tick}
use Rattle.chip_sweep.specs.Sweep.{target, sweeps, swept_period, sweep_clock, sweep_set, sweep_in}
use Rattle.chip_sweep.specs.declared.Sweep.{Sweep}
use Rattle.chip_sweep.proofs.Landing.{moves_to}
use Rattle.divider.proofs.RangeLaws.{tick_ranged}

pub record SweepRanged (w : Sweep) : Type 0 where
  pub period : w.period ≤ 7
  pub shift : w.shift ≤ 7
  pub divider_from : 1 ≤ w.divider
  pub divider_to : w.divider ≤ 8

pub sweep_in_lem : (w : Sweep) → sweep_in w ≡ true → SweepRanged w
unfolding sweep_in
sweep_in_lem w e = search (both_left, both_right, leb-true)

pub sweep_back : (w : Sweep) → SweepRanged w → sweep_in w ≡ true
unfolding sweep_in
sweep_back w h = search (both_true, le-leb)

pub sweep_clocked : (w : Sweep) → SweepRanged w → SweepRanged (sweep_clock w)
unfolding sweep_clock
sweep_clocked w h =
    let n : ℕ = w.period % 8 + 1 in
    let d : (1 ≤ tick n w.divider) × (tick n w.divider ≤ 8) =
    tick_ranged n w.divider 8 (omega arith) (omega arith) h.divider_to
    in
    record {
      period = h.period;
      shift = h.shift;
      divider_from = pick_both (λ (k : ℕ). 1 ≤ k) w.written (omega arith) d.0;
      divider_to = pick_both (λ (k : ℕ). k ≤ 8) w.written (omega arith) d.1;
    }

pub sweep_set_lem : (v : ℕ) (w : Sweep) → SweepRanged w → SweepRanged (sweep_set v w)
unfolding sweep_set
sweep_set_lem v w h = record { period = omega arith; shift = omega arith; divider_from = h.divider_from; divider_to = h.divider_to }

-- a period stays a period
pub swept_most : (second : Bool) (w : Sweep) (p : ℕ) → p ≤ 2047 → swept_period second w p ≤ 2047
unfolding swept_period
swept_most second w p h =
    pick_each (λ (k : ℕ). k ≤ 2047) (sweeps second w p)
    (λ e. let z : nat_abs (target second w p) < 2048 = (moves_to second w p e).low in omega arith)
    (λ e. h)
