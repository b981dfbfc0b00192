-- The frame of a state between two steps: `leap_frame`'s, at the state's own times.
use Rattle.std.specs.Prelude.{ℕ}
use Rattle.chip_frame.specs.declared.Frame.{Frame}
use Rattle.chip_tables.specs.Table.{frame_times}
use Rattle.chip.specs.declared.State.{State}
use Rattle.leap_frame.specs.Leap.{frame_before, frame_passed}

-- the clocks before the next frame step
abbrev pub before_step : State → ℕ
before_step s = frame_before (frame_times s.pal) s.frame

-- the frame after g clocks that bring none
abbrev pub passed_frame : ℕ → State → Frame
passed_frame g s = frame_passed (frame_times s.pal) g s.frame
