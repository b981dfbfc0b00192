-- Document 01, "Register bits": the triangle's registers, $4008 to $400B.
use Rattle.std.specs.Prelude.{ℕ, eqb}
use Rattle.arith.specs.Pick.{pick}
use Rattle.chip_length.specs.Length.{length_loaded}
use Rattle.chip_linear.specs.Linear.{linear_set, linear_halted}
use Rattle.chip_timer.specs.Timer.{period_low, period_high}
use Rattle.chip_timer.specs.declared.Timer.{Timer}
use Rattle.chip_triangle.specs.Triangle.{with_sequencer, with_linear}
use Rattle.chip_triangle.specs.declared.Sequencer.{Sequencer}
use Rattle.chip_triangle.specs.declared.Triangle.{Triangle}

abbrev pub with_timer : Sequencer → Timer → Sequencer
with_timer q t = record { timer = t; position = q.position }

-- "$4008 control 7, reload 6-0"
unfoldable pub triangle_write0 : ℕ → Triangle → Triangle
triangle_write0 value t = with_linear t (linear_set value t.linear)

-- "$400A .. as a square's third"
unfoldable pub triangle_write2 : ℕ → Triangle → Triangle
triangle_write2 value t = with_sequencer t (with_timer t.sequencer (period_low value t.sequencer.timer))

-- "$400B as a square's .. fourth, with no envelope"; "$400B sets linear-halt." (a square's position 0 is the square's own rule)
unfoldable pub triangle_write3 : ℕ → Triangle → Triangle
triangle_write3 value t =
    record {
      sequencer = with_timer t.sequencer (period_high value t.sequencer.timer);
      linear = linear_halted t.linear;
      length = length_loaded value t.length;
    }

-- one of the four, by its place from 0 ("$4009 .. change[s] nothing")
unfoldable pub triangle_write : ℕ → ℕ → Triangle → Triangle
triangle_write place value t =
    pick (eqb place 0) (triangle_write0 value t)
    (pick (eqb place 2) (triangle_write2 value t)
    (pick (eqb place 3) (triangle_write3 value t) t))
