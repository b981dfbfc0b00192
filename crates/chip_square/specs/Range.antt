-- Document 01, "State, ranges and power-on": a square.
use Rattle.std.specs.Prelude.{Bool, false, leb}
use Rattle.arith.specs.Pick.{both}
use Rattle.chip_envelope.specs.Envelope.{envelope_in, envelope_on}
use Rattle.chip_length.specs.Length.{length_in, length_on}
use Rattle.chip_sweep.specs.Sweep.{sweep_in}
use Rattle.chip_timer.specs.Timer.{timer_in, timer_on}
use Rattle.chip_square.specs.declared.Sequencer.{Sequencer}
use Rattle.chip_square.specs.declared.Square.{Square}

-- "period 0..2047; timer 1..2048; half flag; position 0..7"
unfoldable pub sequencer_in : Sequencer → Bool
sequencer_in q = both (timer_in q.timer) (leb q.position 7)

-- "duty 0..3; .. n 0..15; .. P 0..7, S 0..7, .. sweep divider 1..8; .. envelope .. divider 1..16, counter 0..15; length 0..254"
unfoldable pub square_in : Square → Bool
square_in s =
    both (leb s.duty 3)
    (both (sequencer_in s.sequencer) (both (envelope_in s.envelope) (both (sweep_in s.sweep) (length_in s.length))))

-- "sweep divider .. (1); .. timer .. (1); .. envelope .. divider .. (1)", the rest 0 and clear
abbrev pub square_on : Square
square_on =
    record {
      duty = 0;
      sequencer = record { timer = timer_on; half = false; position = 0 };
      envelope = envelope_on;
      sweep = record { enable = false; negate = false; period = 0; shift = 0; written = false; divider = 1 };
      length = length_on;
    }
