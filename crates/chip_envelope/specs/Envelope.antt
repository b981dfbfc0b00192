-- Document 01, "Units": the envelope.
use Rattle.std.specs.Prelude.{ℕ, ◌+◌, ◌-◌, ◌%◌, Bool, true, false, leb, eqb}
use Rattle.arith.specs.Pick.{pick, both}
use Rattle.arith.specs.Bit.{bit_set}
use Rattle.divider.specs.Divider.{due, tick}
use Rattle.chip_envelope.specs.declared.Envelope.{Envelope}

-- "Period n+1." (n is 0..15; any other number is taken by its remainder)
abbrev pub envelope_period : Envelope → ℕ
envelope_period e = e.n % 16 + 1

-- "Fourth register written since the last clock: counter 15, divider reset."
unfoldable pub envelope_started : Envelope → Envelope
envelope_started e =
    record {
      looped = e.looped;
      constant = e.constant;
      n = e.n;
      start = false;
      divider = envelope_period e;
      counter = 15;
    }

-- "on output, 0 with loop becomes 15, nonzero falls by one" (0 without loop stays)
unfoldable pub decayed : Bool → ℕ → ℕ
decayed looped counter = pick (eqb counter 0) (pick looped 15 0) (counter - 1)

-- "Else divide"
unfoldable pub envelope_divided : Envelope → Envelope
envelope_divided e =
    record {
      looped = e.looped;
      constant = e.constant;
      n = e.n;
      start = e.start;
      divider = tick (envelope_period e) e.divider;
      counter = pick (due e.divider) (decayed e.looped e.counter) e.counter;
    }

unfoldable pub envelope_clock : Envelope → Envelope
envelope_clock e = pick e.start (envelope_started e) (envelope_divided e)

-- "Volume is n if constant, else the counter."
unfoldable pub volume : Envelope → ℕ
volume e = pick e.constant e.n e.counter

-- "loop 5, constant 4, n 3-0"
unfoldable pub envelope_set : ℕ → Envelope → Envelope
envelope_set value e =
    record {
      looped = bit_set value 5;
      constant = bit_set value 4;
      n = value % 16;
      start = e.start;
      divider = e.divider;
      counter = e.counter;
    }

-- the fourth register "sets the envelope start flag"
unfoldable pub envelope_begun : Envelope → Envelope
envelope_begun e =
    record {
      looped = e.looped;
      constant = e.constant;
      n = e.n;
      start = true;
      divider = e.divider;
      counter = e.counter;
    }

-- "n 0..15; .. divider 1..16, counter 0..15"
unfoldable pub envelope_in : Envelope → Bool
envelope_in e =
    both (leb e.n 15) (both (both (leb 1 e.divider) (leb e.divider 16)) (leb e.counter 15))

-- at power-on: "envelope .. divider .. (1)", the rest 0 and clear
abbrev pub envelope_on : Envelope
envelope_on = record { looped = false; constant = false; n = 0; start = false; divider = 1; counter = 0 }
