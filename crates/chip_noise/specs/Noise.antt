-- Document 01, "Units", Noise: the channel.
use Rattle.std.specs.Prelude.{ℕ, ◌%◌, Bool, false, leb, eqb}
use Rattle.arith.specs.Pick.{pick, both}
use Rattle.arith.specs.Bit.{bit_set}
use Rattle.chip_envelope.specs.Envelope.{envelope_clock, envelope_set, envelope_begun, envelope_in, envelope_on, volume}
use Rattle.chip_length.specs.Length.{length_clock, length_loaded, length_enabled, length_in, length_on}
use Rattle.chip_envelope.specs.declared.Envelope.{Envelope}
use Rattle.chip_length.specs.declared.Length.{Length}
use Rattle.chip_noise.specs.Shifter.{shifter_clock, shifter_in}
use Rattle.chip_noise.specs.declared.Shifter.{Shifter}
use Rattle.chip_noise.specs.declared.Noise.{Noise}

abbrev pub with_shifter : Noise → Shifter → Noise
with_shifter c h = record { mode = c.mode; index = c.index; shifter = h; envelope = c.envelope; length = c.length }

abbrev pub with_envelope : Noise → Envelope → Noise
with_envelope c e = record { mode = c.mode; index = c.index; shifter = c.shifter; envelope = e; length = c.length }

abbrev pub with_length : Noise → Length → Noise
with_length c l = record { mode = c.mode; index = c.index; shifter = c.shifter; envelope = c.envelope; length = l }

-- one clock, its timer's period being n
unfoldable pub noise_timed : ℕ → Noise → Noise
noise_timed n c = with_shifter c (shifter_clock n c.mode c.shifter)

-- a frame step that clocks envelopes
unfoldable pub noise_enveloped : Noise → Noise
noise_enveloped c = with_envelope c (envelope_clock c.envelope)

-- a frame step that clocks lengths ("loop (also halt)")
unfoldable pub noise_lengthened : Noise → Noise
noise_lengthened c = with_length c (length_clock c.envelope.looped c.length)

-- its bit of $4015
unfoldable pub noise_enabled : Bool → Noise → Noise
noise_enabled on c = with_length c (length_enabled on c.length)

-- what it gives while bit 0 is clear
unfoldable pub noise_amount : Noise → ℕ
noise_amount c = pick (eqb c.length.count 0) 0 (volume c.envelope)

-- "Gives 0 if bit 0 is set or length is 0, else volume."
unfoldable pub noise_output : Noise → ℕ
noise_output c = pick (bit_set c.shifter.register 0) 0 (noise_amount c)

-- "$400C loop 5, constant 4, n 3-0"
unfoldable pub noise_write0 : ℕ → Noise → Noise
noise_write0 value c = with_envelope c (envelope_set value c.envelope)

-- "$400E mode 7, index 3-0"
unfoldable pub noise_write2 : ℕ → Noise → Noise
noise_write2 value c =
    record {
      mode = bit_set value 7;
      index = value % 16;
      shifter = c.shifter;
      envelope = c.envelope;
      length = c.length;
    }

-- "$400F length index 7-3, and the envelope start flag"
unfoldable pub noise_write3 : ℕ → Noise → Noise
noise_write3 value c =
    record {
      mode = c.mode;
      index = c.index;
      shifter = c.shifter;
      envelope = envelope_begun c.envelope;
      length = length_loaded value c.length;
    }

-- one of $400C..$400F, by its place from 0 ("$400D change[s] nothing")
unfoldable pub noise_write : ℕ → ℕ → Noise → Noise
noise_write place value c =
    pick (eqb place 0) (noise_write0 value c)
    (pick (eqb place 2) (noise_write2 value c)
    (pick (eqb place 3) (noise_write3 value c) c))

-- "loop, constant, n, envelope, length and enabled as a square's, mode, index 0..15, timer 1..4068, shift register 1..32767"
-- (`top` is the machine's largest period)
unfoldable pub noise_in : ℕ → Noise → Bool
noise_in top c =
    both (leb c.index 15) (both (shifter_in top c.shifter) (both (envelope_in c.envelope) (length_in c.length)))

-- request 9: "Power-on timers for noise and DMC are the machine's periods at index 0", here n; "shift register .. (1)", the envelope's divider 1, the rest 0
-- and clear
abbrev pub noise_on : ℕ → Noise
noise_on n =
    record {
      mode = false;
      index = 0;
      shifter = record { timer = n; register = 1 };
      envelope = envelope_on;
      length = length_on;
    }
