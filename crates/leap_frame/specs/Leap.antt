-- The frame between two steps: how many clocks bring none, and the frame after some of them.
-- That these are clocks of the frame is proved beside them (proofs/LeapLaws), for any times that rise.
use Rattle.std.specs.Prelude.{ℕ, ◌+◌, ◌-◌, ◌%◌, ltb}
use Rattle.arith.specs.Pick.{pick, both}
use Rattle.chip_frame.specs.Frame.{last_number}
use Rattle.chip_frame.specs.declared.Times.{Times}
use Rattle.chip_frame.specs.declared.Frame.{Frame}

-- the clocks before the next step: that many bring none, one more does. Behind the last step the frame comes round to 0 first.
unfoldable pub frame_before : Times → Frame → ℕ
frame_before t f =
    pick (ltb f.clock t.first) (t.first - 1 - f.clock)
    (pick (ltb f.clock t.second) (t.second - 1 - f.clock)
    (pick (ltb f.clock t.third) (t.third - 1 - f.clock)
    (pick (ltb f.clock t.fourth) (t.fourth - 1 - f.clock)
    (pick (both f.mode (ltb f.clock t.fifth)) (t.fifth - 1 - f.clock) t.first))))

-- g clocks, with no step made: the clock number goes round
unfoldable pub frame_passed : Times → ℕ → Frame → Frame
frame_passed t g f =
    record {
      mode = f.mode;
      disable = f.disable;
      clock = (f.clock + g) % (last_number t f.mode + 1);
      interrupt = f.interrupt;
    }
