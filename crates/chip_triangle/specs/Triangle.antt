-- Document 01, "Units", Triangle: the channel's clocks, what it gives, its range.
use Rattle.std.specs.Prelude.{ℕ, ◌+◌, ◌-◌, ◌%◌, Bool, false, leb, ltb}
use Rattle.arith.specs.Pick.{pick, both}
use Rattle.divider.specs.Divider.{due}
use Rattle.chip_length.specs.Length.{length_clock, length_enabled, length_in, length_on}
use Rattle.chip_linear.specs.Linear.{linear_clock, linear_in}
use Rattle.chip_timer.specs.Timer.{timer_clock, timer_in, timer_on}
use Rattle.chip_length.specs.declared.Length.{Length}
use Rattle.chip_linear.specs.declared.Linear.{Linear}
use Rattle.chip_triangle.specs.declared.Sequencer.{Sequencer}
use Rattle.chip_triangle.specs.declared.Triangle.{Triangle}

-- "length and linear are above 0"
unfoldable pub runs : Triangle → Bool
runs t = both (ltb 0 t.length.count) (ltb 0 t.linear.count)

-- "Timer period+1 advances position while length and linear are above 0."
unfoldable pub triangle_sequenced : Bool → Sequencer → Sequencer
triangle_sequenced on q =
    record {
      timer = timer_clock q.timer;
      position = pick (both (due q.timer.count) on) ((q.position + 1) % 32) q.position;
    }

abbrev pub with_sequencer : Triangle → Sequencer → Triangle
with_sequencer t q = record { sequencer = q; linear = t.linear; length = t.length }

abbrev pub with_linear : Triangle → Linear → Triangle
with_linear t l = record { sequencer = t.sequencer; linear = l; length = t.length }

abbrev pub with_length : Triangle → Length → Triangle
with_length t l = record { sequencer = t.sequencer; linear = t.linear; length = l }

-- one clock ("gated by its counters as they stood at the start of the clock")
unfoldable pub triangle_timed : Triangle → Triangle
triangle_timed t = with_sequencer t (triangle_sequenced (runs t) t.sequencer)

-- a frame step that clocks the linear counter
unfoldable pub triangle_linear : Triangle → Triangle
triangle_linear t = with_linear t (linear_clock t.linear)

-- a frame step that clocks lengths ("control (also halt)")
unfoldable pub triangle_lengthened : Triangle → Triangle
triangle_lengthened t = with_length t (length_clock t.linear.control t.length)

-- its bit of $4015
unfoldable pub triangle_enabled : Bool → Triangle → Triangle
triangle_enabled on t = with_length t (length_enabled on t.length)

-- "Gives 15 down to 0, then 0 up to 15." (a position is 0..31; any other number is taken by its remainder)
unfoldable pub triangle_at : ℕ → ℕ
triangle_at position = pick (ltb (position % 32) 16) (15 - position % 32) (position % 32 - 16)

unfoldable pub triangle_output : Triangle → ℕ
triangle_output t = triangle_at t.sequencer.position

-- "control (also halt), reload and linear 0..127, .. period and timer as above, position 0..31, length, enabled"
unfoldable pub triangle_sequencer_in : Sequencer → Bool
triangle_sequencer_in q = both (timer_in q.timer) (leb q.position 31)

unfoldable pub triangle_in : Triangle → Bool
triangle_in t = both (triangle_sequencer_in t.sequencer) (both (linear_in t.linear) (length_in t.length))

-- "timer .. (1)", the rest 0 and clear
abbrev pub triangle_on : Triangle
triangle_on =
    record {
      sequencer = record { timer = timer_on; position = 0 };
      linear = record { control = false; reload = 0; count = 0; halt = false };
      length = length_on;
    }
