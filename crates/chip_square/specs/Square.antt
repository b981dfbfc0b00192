-- Document 01, "Units", Square: the channel's clocks and what it gives. `second` says that it is square 2.
use Rattle.std.specs.Prelude.{ℕ, Bool, eqb}
use Rattle.arith.specs.Pick.{pick}
use Rattle.chip_envelope.specs.Envelope.{envelope_clock, volume}
use Rattle.chip_length.specs.Length.{length_clock, length_enabled}
use Rattle.chip_sweep.specs.Sweep.{low_period, high_target, swept_period, sweep_clock}
use Rattle.chip_envelope.specs.declared.Envelope.{Envelope}
use Rattle.chip_length.specs.declared.Length.{Length}
use Rattle.chip_square.specs.Sequencer.{sequencer_clock, duty_bit}
use Rattle.chip_square.specs.declared.Sequencer.{Sequencer}
use Rattle.chip_square.specs.declared.Square.{Square}

abbrev pub with_sequencer : Square → Sequencer → Square
with_sequencer s q = record { duty = s.duty; sequencer = q; envelope = s.envelope; sweep = s.sweep; length = s.length }

abbrev pub with_envelope : Square → Envelope → Square
with_envelope s e = record { duty = s.duty; sequencer = s.sequencer; envelope = e; sweep = s.sweep; length = s.length }

abbrev pub with_length : Square → Length → Square
with_length s l = record { duty = s.duty; sequencer = s.sequencer; envelope = s.envelope; sweep = s.sweep; length = l }

abbrev pub with_period : Sequencer → ℕ → Sequencer
with_period q p = record { timer = record { period = p; count = q.timer.count }; half = q.half; position = q.position }

-- one clock
unfoldable pub square_timed : Square → Square
square_timed s = with_sequencer s (sequencer_clock s.sequencer)

-- a frame step that clocks envelopes
unfoldable pub square_enveloped : Square → Square
square_enveloped s = with_envelope s (envelope_clock s.envelope)

-- a frame step that clocks lengths and sweeps ("loop (also halt)")
unfoldable pub square_swept : Bool → Square → Square
square_swept second s =
    record {
      duty = s.duty;
      sequencer = with_period s.sequencer (swept_period second s.sweep s.sequencer.timer.period);
      envelope = s.envelope;
      sweep = sweep_clock s.sweep;
      length = length_clock s.envelope.looped s.length;
    }

-- its bit of $4015
unfoldable pub square_enabled : Bool → Square → Square
square_enabled on s = with_length s (length_enabled on s.length)

-- what it gives while the duty bit is 1: "volume if .. length above 0 and not muted; else 0"
unfoldable pub square_amount : Bool → Square → ℕ
square_amount second s =
    pick (eqb s.length.count 0) 0
    (pick (low_period s.sequencer.timer.period) 0
    (pick (high_target second s.sweep s.sequencer.timer.period) 0 (volume s.envelope)))

-- "Gives volume if the duty bit is 1, length above 0 and not muted; else 0."
unfoldable pub square_output : Bool → Square → ℕ
square_output second s = pick (eqb (duty_bit s.duty s.sequencer.position) 1) (square_amount second s) 0
