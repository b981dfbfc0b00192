-- Document 01, "Register bits": a square's four registers, from $4000 and $4004.
use Rattle.std.specs.Prelude.{ℕ, ◌/◌, eqb}
use Rattle.arith.specs.Pick.{pick}
use Rattle.chip_envelope.specs.Envelope.{envelope_set, envelope_begun}
use Rattle.chip_length.specs.Length.{length_loaded}
use Rattle.chip_sweep.specs.Sweep.{sweep_set}
use Rattle.chip_timer.specs.Timer.{period_low, period_high}
use Rattle.chip_square.specs.declared.Sequencer.{Sequencer}
use Rattle.chip_square.specs.declared.Square.{Square}

-- "first register duty 7-6, loop 5, constant 4, n 3-0"
unfoldable pub square_write0 : ℕ → Square → Square
square_write0 value s =
    record {
      duty = value / 64;
      sequencer = s.sequencer;
      envelope = envelope_set value s.envelope;
      sweep = s.sweep;
      length = s.length;
    }

-- "second sweep enable 7, P 6-4, negate 3, S 2-0, and it sets sweep-written"
unfoldable pub square_write1 : ℕ → Square → Square
square_write1 value s =
    record {
      duty = s.duty;
      sequencer = s.sequencer;
      envelope = s.envelope;
      sweep = sweep_set value s.sweep;
      length = s.length;
    }

-- "third the low 8 bits of the period"
unfoldable pub sequencer_low : ℕ → Sequencer → Sequencer
sequencer_low value q = record { timer = period_low value q.timer; half = q.half; position = q.position }

unfoldable pub square_write2 : ℕ → Square → Square
square_write2 value s =
    record {
      duty = s.duty;
      sequencer = sequencer_low value s.sequencer;
      envelope = s.envelope;
      sweep = s.sweep;
      length = s.length;
    }

-- "period's high 3 bits 2-0"; "The fourth register sets position 0 and leaves timer and half flag."
unfoldable pub sequencer_high : ℕ → Sequencer → Sequencer
sequencer_high value q = record { timer = period_high value q.timer; half = q.half; position = 0 }

-- "fourth length index 7-3, period's high 3 bits 2-0, and it sets the envelope start flag"
unfoldable pub square_write3 : ℕ → Square → Square
square_write3 value s =
    record {
      duty = s.duty;
      sequencer = sequencer_high value s.sequencer;
      envelope = envelope_begun s.envelope;
      sweep = s.sweep;
      length = length_loaded value s.length;
    }

-- one of the four, by its place from 0
unfoldable pub square_write : ℕ → ℕ → Square → Square
square_write place value s =
    pick (eqb place 0) (square_write0 value s)
    (pick (eqb place 1) (square_write1 value s)
    (pick (eqb place 2) (square_write2 value s) (square_write3 value s)))
