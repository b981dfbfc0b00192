-- The times of the frame, for either machine: they rise, and a stretch between two steps has a longest length. Assumes nothing.
use Prim.Native.Nat.{◌≤◌}
use mathlib.Core.Bool.{Bool, true, false}
use native.Mathlib.Omega.{arith}
use Rattle.chip_tables.specs.Table.{frame_times}
use Rattle.chip.specs.declared.State.{State}
use Rattle.leap_frame.proofs.LeapLaws.{Rising, Gaps, before_most}
use Rattle.leap_law.specs.Frame.{before_step}

-- the times of the frame rise, and no gap between two of them is above 8,314 clocks
pub times_rise : (pal : Bool) → Rising (frame_times pal)
times_rise true =
    record { first = omega arith; second = omega arith; third = omega arith; fourth = omega arith; fifth = omega arith }
times_rise false =
    record { first = omega arith; second = omega arith; third = omega arith; fourth = omega arith; fifth = omega arith }

times_gaps : (pal : Bool) → Gaps (frame_times pal) 8314
times_gaps true =
    record { first = omega arith; second = omega arith; third = omega arith; fourth = omega arith; fifth = omega arith }
times_gaps false =
    record { first = omega arith; second = omega arith; third = omega arith; fourth = omega arith; fifth = omega arith }

-- a stretch between two frame steps is at most this long
pub before_step_most : (s : State) → before_step s ≤ 8314
before_step_most s = before_most (frame_times s.pal) 8314 (times_gaps s.pal) s.frame
