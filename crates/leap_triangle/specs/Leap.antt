-- The triangle in the leap: what its timer moves, in whole numbers; for how many clocks it surely gives the same, and that state g clocks
-- on and at its next change. That these are clocks of the triangle is proved beside them (proofs/LeapLaws).
use Rattle.std.specs.Prelude.{ℕ, ◌+◌, ◌-◌, ◌%◌, eqb}
use Rattle.arith.specs.Pick.{pick}
use Rattle.divider.specs.Divider.{due, tick, outputs, count_after}
use Rattle.leap_still.specs.Forever.{forever}
use Rattle.chip_timer.specs.Timer.{timer_period}
use Rattle.chip_triangle.specs.Triangle.{runs, triangle_at}
use Rattle.chip_triangle.specs.declared.Sequencer.{Sequencer}
use Rattle.chip_triangle.specs.declared.Triangle.{Triangle}
use Rattle.leap_triangle.specs.declared.Beat.{Beat}

-- 1 where its two counters let it advance, else 0
unfoldable pub triangle_gate : Triangle → ℕ
triangle_gate t = pick (runs t) 1 0

-- a sequencer in whole numbers: its divider's period, its timer's count, its position
unfoldable pub triangle_beat_of : Sequencer → Beat
triangle_beat_of q = record { n = timer_period q.timer; count = q.timer.count; position = q.position }

-- a sequencer with count and position from a beat (numbers past the fields' ranges are taken by their remainders)
unfoldable pub triangle_with_beat : Sequencer → Beat → Sequencer
triangle_with_beat q b =
    record { timer = record { period = q.timer.period; count = b.count % 65536 }; position = b.position % 32 }

-- the position k outputs on: it holds where `on` is 0
unfoldable pub position_after : ℕ → ℕ → ℕ → ℕ
position_after on k position = pick (eqb on 0) position ((position + k) % 32)

-- one clock
unfoldable pub triangle_beat_clock : ℕ → Beat → Beat
triangle_beat_clock on b =
    record {
      n = b.n;
      count = tick b.n b.count;
      position = pick (due b.count) (position_after on 1 b.position) b.position;
    }

-- what the triangle gives
unfoldable pub triangle_gives : Beat → ℕ
triangle_gives b = triangle_at b.position

-- held by its counters for ever, else up to the clock before the timer's output
unfoldable pub triangle_still : ℕ → Beat → ℕ
triangle_still on b = pick (eqb on 0) forever (b.count - 1)

-- g clocks on
unfoldable pub triangle_beat_advanced : ℕ → ℕ → Beat → Beat
triangle_beat_advanced on g b =
    record {
      n = b.n;
      count = count_after b.n b.count g;
      position = position_after on (outputs b.n b.count g) b.position;
    }

-- at the next change, with no division
unfoldable pub triangle_beat_turned : Beat → Beat
triangle_beat_turned b = record { n = b.n; count = b.n; position = (b.position + 1) % 32 }
