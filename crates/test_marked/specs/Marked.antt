-- Document 01, "Marked for one shared table": the cases as one table, and one statement that every row holds.
use Rattle.std.specs.Prelude.{ℕ, ◌+◌, ◌≡◌, refl, Bool, true, false, List, [], ◌∷◌, ℤ, pos, negsuc}
use Rattle.chip_mixer.specs.Mixer.{squares_level, mixed, weight, rest_level}
use Rattle.chip_sweep.specs.Sweep.{target, muted, low_period, high_target, sweeps, swept_period, sweep_clock}
use Rattle.chip_noise.specs.Shifter.{shifted_of, shifter_clock}
use Rattle.chip_dmc.specs.Clock.{dmc_read, dmc_output, dmc_timed}
use Rattle.chip_dmc_output.specs.Output.{output_clock, output_step, level_moved}
use Rattle.chip_dmc_reader.specs.Reader.{emptied, reader_clock, pending, fetched, next_address, byte_at, sample_ended, restarted, flagged, switched}
use Rattle.chip_dmc.specs.Range.{dmc_on}
use Rattle.chip.specs.Clock.{chip_clock, timers_clocked, reader_clocked, quarter_frame, half_frame, stepped, step_due, framed}
use Rattle.chip.specs.Level.{state_level}
use Rattle.chip.specs.Range.{power_on}
use Rattle.chip_access.specs.Status.{status_byte, status_read}
use Rattle.chip_access.specs.Write.{register_written, channel_written, control_written, enables_written}
use Rattle.chip_square.specs.Square.{square_output, square_amount, square_timed, square_enveloped, square_swept, square_enabled}
use Rattle.chip_square.specs.Sequencer.{sequencer_clock, duty_bit}
use Rattle.chip_square.specs.Write.{square_write, square_write3, sequencer_high}
use Rattle.chip_triangle.specs.Triangle.{triangle_output, triangle_at, triangle_timed, runs, triangle_sequenced, triangle_linear, triangle_lengthened, triangle_enabled}
use Rattle.chip_noise.specs.Noise.{noise_output, noise_amount, noise_timed, noise_enveloped, noise_lengthened, noise_enabled}
use Rattle.chip_dmc.specs.Write.{dmc_write, dmc_write3, dmc_enabled}
use Rattle.chip_frame.specs.Frame.{frame_due, frame_moved, step_at, is_quarter, is_half, frame_stepped, frame_read}
use Rattle.chip_timer.specs.Timer.{timer_clock, period_high}
use Rattle.chip_length.specs.Length.{length_loaded, length_clock, length_enabled}
use Rattle.chip_envelope.specs.Envelope.{envelope_clock, envelope_started, envelope_divided, decayed, volume, envelope_begun}
use Rattle.chip_linear.specs.Linear.{linear_clock}
use Rattle.chip_tables.specs.Table.{noise_period, dmc_period}
use Rattle.chip_sweep.specs.declared.Sweep.{Sweep}
use Rattle.chip_dmc.specs.declared.Dmc.{Dmc}
use Rattle.log_rules.specs.Judge.{judged, judge, ending}
use Rattle.log_rules.specs.Lines.{lines_of}
use Rattle.log_rules.specs.Whole.{check_of, unless_wrong}
use Rattle.chip.specs.declared.State.{State}

-- a row: what a definition gives, and what it is to be
pub data Row : Type 0 where
  number : ℕ → ℕ → Row
  signed : ℤ → ℤ → Row
  flag : Bool → Bool → Row

-- every row's two sides are equal
abbrev pub Holds : List Row → Type 0
Holds [] = Unit {0}
Holds (number a b ∷ rows) = (a ≡ b) × Holds rows
Holds (signed a b ∷ rows) = (a ≡ b) × Holds rows
Holds (flag a b ∷ rows) = (a ≡ b) × Holds rows

-- NTSC's power-on, but for the frame's clock number ("the marked cases are NTSC's")
abbrev pub at_clock : ℕ → State
at_clock clock =
    record {
      square1 = (power_on false).square1;
      square2 = (power_on false).square2;
      triangle = (power_on false).triangle;
      noise = (power_on false).noise;
      dmc = (power_on false).dmc;
      frame = record { mode = false; disable = false; clock = clock; interrupt = false };
      pal = false;
    }

-- a sweep with this shift
abbrev pub sweep_by : Bool → ℕ → Sweep
sweep_by negate shift = record { enable = false; negate = negate; period = 0; shift = shift; written = false; divider = 1 }

-- the DMC about to fetch from an address
abbrev pub fetching : ℕ → Dmc
fetching address =
    record {
      registers = (dmc_on 428).registers;
      output = (dmc_on 428).output;
      reader = record { address = address; remaining = 2; buffer = 0; full = false; interrupt = false };
    }

-- whatever the sample memory holds
abbrev pub marked : List ℕ → List Row
marked memory =
    -- (1) power-on level 8074
    number (state_level (power_on false)) 8074
    -- (2) squares 15, 0 give A 4894
    ∷ number (squares_level (15 + 0)) 4894
    -- (3) from clock numbers 7456, 14912, 22370 and 29828 one clock brings a step, and from the numbers beside them none
    ∷ flag (step_due (at_clock 7455)) false
    ∷ flag (step_due (at_clock 7456)) true
    ∷ flag (step_due (at_clock 7457)) false
    ∷ flag (step_due (at_clock 14911)) false
    ∷ flag (step_due (at_clock 14912)) true
    ∷ flag (step_due (at_clock 14913)) false
    ∷ flag (step_due (at_clock 22369)) false
    ∷ flag (step_due (at_clock 22370)) true
    ∷ flag (step_due (at_clock 22371)) false
    ∷ flag (step_due (at_clock 29827)) false
    ∷ flag (step_due (at_clock 29828)) true
    ∷ flag (step_due (at_clock 29829)) false
    -- and from 29829 it leads to 0
    ∷ number (chip_clock memory (at_clock 29829)).frame.clock 0
    -- (4) power-on but clock number 29828: status 00, after one clock 40, read again 00
    ∷ number (status_byte (at_clock 29828)) 0x00
    ∷ number (status_byte (chip_clock memory (status_read (at_clock 29828)))) 0x40
    ∷ number (status_byte (status_read (chip_clock memory (status_read (at_clock 29828))))) 0x00
    -- (5) period 1000, S 1, negate: 499 and 500
    ∷ signed (target false (sweep_by true 1) 1000) (pos 499)
    ∷ signed (target true (sweep_by true 1) 1000) (pos 500)
    -- (6) square 1, S 0, negate, period 8: target -1, not muted
    ∷ signed (target false (sweep_by true 0) 8) (negsuc 0)
    ∷ flag (muted false (sweep_by true 0) 8) false
    -- (7) period 1024, S 0: muted, 1023 not
    ∷ flag (muted false (sweep_by false 0) 1024) true
    ∷ flag (muted false (sweep_by false 0) 1023) false
    ∷ flag (muted true (sweep_by false 0) 1024) true
    ∷ flag (muted true (sweep_by false 0) 1023) false
    -- (8) shift register 1 becomes 16384, then 8192
    ∷ number (shifted_of false 1) 16384
    ∷ number (shifted_of false (shifted_of false 1)) 8192
    ∷ number (shifted_of true 1) 16384
    ∷ number (shifted_of true (shifted_of true 1)) 8192
    -- (9) length value $08 gives 254
    ∷ number (register_written 0x4003 0x08 (register_written 0x4015 0x01 (power_on false))).square1.length.count 254
    -- (10) $4013 of 0 and 255: 1 and 4081
    ∷ number (register_written 0x4015 0x10 (register_written 0x4013 0 (power_on false))).dmc.reader.remaining 1
    ∷ number (register_written 0x4015 0x10 (register_written 0x4013 255 (power_on false))).dmc.reader.remaining 4081
    -- (11) $FFFF then $8000
    ∷ number (dmc_read memory (fetching 0xFFFE)).reader.address 0xFFFF
    ∷ number (dmc_read memory (fetching 0xFFFF)).reader.address 0x8000
    -- (12) empty log: refusal 18 at 0
    ∷ number (check_of []).number 18
    ∷ number (check_of []).place 0
    ∷ []

-- EVERY MARKED CASE HOLDS
pub all_hold : (memory : List ℕ) → Holds (marked memory)
unfolding check_of unless_wrong judged judge ending lines_of chip_clock dmc_read muted power_on register_written shifted_of squares_level state_level status_byte status_read target mixed weight rest_level square_output square_amount square_timed square_enveloped square_swept square_enabled sequencer_clock duty_bit square_write square_write3 sequencer_high triangle_output triangle_at triangle_timed runs triangle_sequenced triangle_linear triangle_lengthened triangle_enabled noise_output noise_amount noise_timed noise_enveloped noise_lengthened noise_enabled shifter_clock dmc_output dmc_timed output_clock output_step emptied reader_clock pending fetched next_address byte_at sample_ended restarted flagged level_moved dmc_write dmc_write3 dmc_enabled switched frame_due frame_moved step_at is_quarter is_half frame_stepped frame_read timer_clock period_high length_loaded length_clock length_enabled envelope_clock envelope_started envelope_divided decayed volume envelope_begun low_period high_target sweeps swept_period sweep_clock linear_clock timers_clocked reader_clocked quarter_frame half_frame stepped framed noise_period dmc_period channel_written control_written enables_written
all_hold memory =
    (refl, (refl, (refl, (refl, (refl, (refl, (refl, (refl, (refl, (refl, (refl, (refl, (refl, (refl, (refl, (refl, (refl, (refl, (refl, (refl, (refl, (refl, (refl, (refl, (refl, (refl, (refl, (refl, (refl, (refl, (refl, (refl, (refl, (refl, (refl, (refl, (refl, tt)))))))))))))))))))))))))))))))))))))
