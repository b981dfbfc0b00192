-- A square in the leap: what its timer moves, in whole numbers; for how many clocks it surely gives the same, and that state g clocks on
-- and at its next change. That these are clocks of the square is proved beside them (proofs/LeapLaws).
use Rattle.std.specs.Prelude.{ℕ, ◌+◌, ◌-◌, ◌*◌, ◌/◌, ◌%◌, List, [], ◌∷◌, ◌==◌, slice_index}
use Rattle.arith.specs.Pick.{pick}
use Rattle.divider.specs.Divider.{due, tick, outputs, count_after}
use Rattle.leap_still.specs.Forever.{forever}
use Rattle.chip_timer.specs.Timer.{timer_period}
use Rattle.chip_square.specs.Sequencer.{duty_bit}
use Rattle.chip_square.specs.declared.Sequencer.{Sequencer}
use Rattle.leap_square.specs.declared.Beat.{Beat}

-- half flag and position as one count of sixteen: twice the position, and one if the half flag is set
unfoldable pub steps_of : Sequencer → ℕ
steps_of q = 2 * q.position + pick q.half 1 0

-- a sequencer in whole numbers: its divider's period, its timer's count, its steps
unfoldable pub beat_of : Sequencer → Beat
beat_of q = record { n = timer_period q.timer; count = q.timer.count; steps = steps_of q }

-- a sequencer with count, half flag and position from a beat (numbers past the fields' ranges are taken by their remainders)
unfoldable pub with_beat : Sequencer → Beat → Sequencer
with_beat q b =
    record {
      timer = record { period = q.timer.period; count = b.count % 65536 };
      half = (b.steps % 2 == 1);
      position = b.steps / 2 % 8;
    }

-- one clock
unfoldable pub beat_clock : Beat → Beat
beat_clock b =
    record { n = b.n; count = tick b.n b.count; steps = pick (due b.count) ((b.steps + 1) % 16) b.steps }

-- a duty as the place in a table at which its row of sixteen begins
unfoldable pub duty_row : ℕ → ℕ
duty_row duty = duty % 4 * 16

-- what the square gives, from what it gives while the duty bit is 1
unfoldable pub beat_gives : ℕ → ℕ → Beat → ℕ
beat_gives row amount b = pick (duty_bit (row / 16) (b.steps / 2) == 1) amount 0

-- the outputs that leave the duty bit as it is, a row for each duty, by steps
abbrev pub turn_table : List ℕ
turn_table =
    1 ∷ 0 ∷ 1 ∷ 0 ∷ 13 ∷ 12 ∷ 11 ∷ 10 ∷ 9 ∷ 8 ∷ 7 ∷ 6 ∷ 5 ∷ 4 ∷ 3 ∷ 2
    ∷ 1 ∷ 0 ∷ 3 ∷ 2 ∷ 1 ∷ 0 ∷ 11 ∷ 10 ∷ 9 ∷ 8 ∷ 7 ∷ 6 ∷ 5 ∷ 4 ∷ 3 ∷ 2
    ∷ 1 ∷ 0 ∷ 7 ∷ 6 ∷ 5 ∷ 4 ∷ 3 ∷ 2 ∷ 1 ∷ 0 ∷ 7 ∷ 6 ∷ 5 ∷ 4 ∷ 3 ∷ 2
    ∷ 1 ∷ 0 ∷ 3 ∷ 2 ∷ 1 ∷ 0 ∷ 11 ∷ 10 ∷ 9 ∷ 8 ∷ 7 ∷ 6 ∷ 5 ∷ 4 ∷ 3 ∷ 2 ∷ []

unfoldable pub duty_turns : ℕ → ℕ → ℕ
duty_turns row steps = slice_index turn_table (row / 16 % 4 * 16 + steps % 16)

-- with an amount of 0 for ever, else up to the clock before the output that changes the duty bit
unfoldable pub square_still : ℕ → ℕ → Beat → ℕ
square_still row amount b = pick (amount == 0) forever (b.count - 1 + duty_turns row b.steps * b.n)

-- g clocks on
unfoldable pub beat_advanced : ℕ → Beat → Beat
beat_advanced g b =
    record {
      n = b.n;
      count = count_after b.n b.count g;
      steps = (b.steps + outputs b.n b.count g) % 16;
    }

-- at the next change, with no division
unfoldable pub beat_turned : ℕ → Beat → Beat
beat_turned row b = record { n = b.n; count = b.n; steps = (b.steps + (duty_turns row b.steps + 1)) % 16 }
