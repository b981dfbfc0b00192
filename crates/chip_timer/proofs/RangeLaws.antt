-- The timer's range: the test, the facts that it stands for, and that every operation keeps it. Assumes nothing.
use Prim.Native.Nat.{ℕ, ◌≤◌}
use mathlib.Core.Path.{◌≡◌}
use mathlib.Core.Bool.{true}
use native.Mathlib.Omega.{arith}
use borrow.Author.Tests.{leb-true, le-leb}
use Rattle.arith.proofs.PickLaws.{both_left, both_right, both_true}
use Rattle.divider.specs.Divider.{tick}
use Rattle.chip_timer.specs.Timer.{timer_period, timer_clock, period_low, period_high, timer_in}
use Rattle.chip_timer.specs.declared.Timer.{Timer}
use Rattle.divider.proofs.RangeLaws.{tick_ranged}

pub record TimerRanged (t : Timer) : Type 0 where
  pub period : t.period ≤ 2047
  pub count_from : 1 ≤ t.count
  pub count_to : t.count ≤ 2048

pub timer_in_lem : (t : Timer) → timer_in t ≡ true → TimerRanged t
unfolding timer_in
timer_in_lem t e = search (both_left, both_right, leb-true)

pub timer_back : (t : Timer) → TimerRanged t → timer_in t ≡ true
unfolding timer_in
timer_back t h = search (both_true, le-leb)

pub timer_clocked : (t : Timer) → TimerRanged t → TimerRanged (timer_clock t)
unfolding timer_clock
timer_clocked t h =
    let d : (1 ≤ tick (timer_period t) t.count) × (tick (timer_period t) t.count ≤ 2048) =
    tick_ranged (timer_period t) t.count 2048 (omega arith) (omega arith) h.count_to
    in record { period = h.period; count_from = d.0; count_to = d.1 }

pub period_low_kept : (v : ℕ) (t : Timer) → v ≤ 255 → TimerRanged t → TimerRanged (period_low v t)
unfolding period_low
period_low_kept v t b h = record { period = omega (arith, h.period); count_from = h.count_from; count_to = h.count_to }

pub period_high_kept : (v : ℕ) (t : Timer) → TimerRanged t → TimerRanged (period_high v t)
unfolding period_high
period_high_kept v t h = record { period = omega arith; count_from = h.count_from; count_to = h.count_to }
