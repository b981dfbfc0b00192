-- Document 01, "Dividers and one clock", as requests 4 and 8 have it: the frame's clock number, its steps and the frame interrupt flag.
use Rattle.std.specs.Prelude.{ℕ, ◌+◌, Bool, true, false, not, leb, eqb}
use Rattle.arith.specs.Pick.{pick, both, either}
use Rattle.arith.specs.Bit.{bit_set}
use Rattle.chip_frame.specs.declared.Times.{Times}
use Rattle.chip_frame.specs.declared.Frame.{Frame}

-- the last clock number of a frame, that of its last step: the fourth in mode 0, the fifth in mode 1
abbrev pub last_number : Times → Bool → ℕ
last_number t mode = pick mode t.fifth t.fourth

-- a clock: the clock number rises by one, and behind the last the frame is "from the start again"
unfoldable pub frame_moved : Times → Frame → Frame
frame_moved t f =
    record {
      mode = f.mode;
      disable = f.disable;
      clock = pick (leb (last_number t f.mode) f.clock) 0 (f.clock + 1);
      interrupt = f.interrupt;
    }

-- the step that comes at a clock number, and 0 where none comes. Mode 0: "steps 1 to 4"; in mode 1 "the five times then bring steps 2, 3, 4, 5 and 1"
unfoldable pub step_at : Times → Bool → ℕ → ℕ
step_at t mode clock =
    pick (eqb clock t.first) (pick mode 2 1)
    (pick (eqb clock t.second) (pick mode 3 2)
    (pick (eqb clock t.third) (pick mode 4 3)
    (pick (eqb clock t.fourth) (pick mode 5 4) (pick (both mode (eqb clock t.fifth)) 1 0))))

-- the step that the next clock brings, and whether it brings one
abbrev pub next_step : Times → Frame → ℕ
next_step t f = step_at t f.mode (frame_moved t f).clock

unfoldable pub frame_due : Times → Frame → Bool
frame_due t f = not (eqb (next_step t f) 0)

-- "Mode 0, steps 1 to 4: envelopes and linear counter each time"; "Mode 1, steps 1 to 5: envelopes and linear at 1 to 4"
unfoldable pub is_quarter : ℕ → Frame → Bool
is_quarter step f = pick f.mode (leb step 4) true

-- "lengths and sweeps at 2 and 4"; in mode 1 "at 1 and 3"
unfoldable pub is_half : ℕ → Frame → Bool
is_half step f = pick f.mode (either (eqb step 1) (eqb step 3)) (either (eqb step 2) (eqb step 4))

-- "In mode 0 the flag is set at [step 4] only, if disable is clear"
unfoldable pub frame_stepped : ℕ → Frame → Frame
frame_stepped step f =
    record {
      mode = f.mode;
      disable = f.disable;
      clock = f.clock;
      interrupt = pick (both (not f.disable) (both (not f.mode) (eqb step 4))) true f.interrupt;
    }

-- "A $4017 write sets mode (bit 7) and disable (bit 6)", and the clock number 0 (the step at once in mode 1 is the chip's); "with bit 6 set [it]
-- clears the flag"
unfoldable pub frame_written : ℕ → Frame → Frame
frame_written value f =
    record {
      mode = bit_set value 7;
      disable = bit_set value 6;
      clock = 0;
      interrupt = pick (bit_set value 6) false f.interrupt;
    }

-- a status read "clears the frame flag"
unfoldable pub frame_read : Frame → Frame
frame_read f = record { mode = f.mode; disable = f.disable; clock = f.clock; interrupt = false }

-- "the frame flag is set and disable is clear"
unfoldable pub frame_asserts : Frame → Bool
frame_asserts f = both f.interrupt (not f.disable)

-- "a clock number, 0..29829 in mode 0 and 0..37281 in mode 1"; "a state with disable and frame flag both set is out of range"
unfoldable pub frame_in : Times → Frame → Bool
frame_in t f = both (leb f.clock (last_number t f.mode)) (not (both f.disable f.interrupt))

-- "flags clear, numbers 0": "Power-on clock number is 0"
abbrev pub frame_on : Frame
frame_on = record { mode = false; disable = false; clock = 0; interrupt = false }
