-- A state as 91 bytes: the 78 fields in the order in which document 01's "State, ranges and power-on" names them, square 1, square 2, triangle,
-- noise, DMC, frame, and behind them the machine, 0 NTSC and 1 PAL. Period, timer, register, address, remaining and clock number take two bytes, low first, every other field one; a flag is 0 or 1.
use Rattle.std.specs.Prelude.{ℕ, ◌+◌, Bool, List, [], ◌∷◌, ◌++◌}
use Rattle.arith.specs.Pick.{pick}
use Rattle.text.specs.Key.{exactly}
use Rattle.c_bytes.specs.Fields.{flag_byte, low, high, byte_of, flag_of, pair_of}
use Rattle.chip_square.specs.declared.Square.{Square}
use Rattle.chip_triangle.specs.declared.Triangle.{Triangle}
use Rattle.chip_noise.specs.declared.Noise.{Noise}
use Rattle.chip_dmc.specs.declared.Dmc.{Dmc}
use Rattle.chip_frame.specs.declared.Frame.{Frame}
use Rattle.chip.specs.declared.State.{State}

-- how many bytes a state is
abbrev pub state_size : ℕ
state_size = 91

-- WRITTEN

-- "duty; loop and constant flags; n; sweep enable, negate, P, S, sweep-written flag; sweep divider; period; timer; half flag; position; envelope
-- start flag, divider, counter; length; enabled"
unfoldable pub square_bytes : Square → List ℕ
square_bytes s =
    s.duty
    ∷ flag_byte s.envelope.looped
    ∷ flag_byte s.envelope.constant
    ∷ s.envelope.n
    ∷ flag_byte s.sweep.enable
    ∷ flag_byte s.sweep.negate
    ∷ s.sweep.period
    ∷ s.sweep.shift
    ∷ flag_byte s.sweep.written
    ∷ s.sweep.divider
    ∷ low s.sequencer.timer.period
    ∷ high s.sequencer.timer.period
    ∷ low s.sequencer.timer.count
    ∷ high s.sequencer.timer.count
    ∷ flag_byte s.sequencer.half
    ∷ s.sequencer.position
    ∷ flag_byte s.envelope.start
    ∷ s.envelope.divider
    ∷ s.envelope.counter
    ∷ s.length.count
    ∷ flag_byte s.length.enabled
    ∷ []

-- "control, reload and linear, linear-halt flag, period and timer .., position, length, enabled"
unfoldable pub triangle_bytes : Triangle → List ℕ
triangle_bytes t =
    flag_byte t.linear.control
    ∷ t.linear.reload
    ∷ t.linear.count
    ∷ flag_byte t.linear.halt
    ∷ low t.sequencer.timer.period
    ∷ high t.sequencer.timer.period
    ∷ low t.sequencer.timer.count
    ∷ high t.sequencer.timer.count
    ∷ t.sequencer.position
    ∷ t.length.count
    ∷ flag_byte t.length.enabled
    ∷ []

-- "loop, constant, n, envelope, length and enabled as a square's, mode, index, timer, shift register"
unfoldable pub noise_bytes : Noise → List ℕ
noise_bytes c =
    flag_byte c.envelope.looped
    ∷ flag_byte c.envelope.constant
    ∷ c.envelope.n
    ∷ flag_byte c.envelope.start
    ∷ c.envelope.divider
    ∷ c.envelope.counter
    ∷ c.length.count
    ∷ flag_byte c.length.enabled
    ∷ flag_byte c.mode
    ∷ c.index
    ∷ low c.shifter.timer
    ∷ high c.shifter.timer
    ∷ low c.shifter.register
    ∷ high c.shifter.register
    ∷ []

-- "interrupt enable, loop, index, timer, level, address byte, length byte, address, remaining, buffer and its full flag, shift byte, bits, silence,
-- interrupt flag"
unfoldable pub dmc_bytes : Dmc → List ℕ
dmc_bytes d =
    flag_byte d.registers.enable
    ∷ flag_byte d.registers.looped
    ∷ d.registers.index
    ∷ low d.output.timer
    ∷ high d.output.timer
    ∷ d.output.level
    ∷ d.registers.start
    ∷ d.registers.size
    ∷ low d.reader.address
    ∷ high d.reader.address
    ∷ low d.reader.remaining
    ∷ high d.reader.remaining
    ∷ d.reader.buffer
    ∷ flag_byte d.reader.full
    ∷ d.output.shift
    ∷ d.output.bits
    ∷ flag_byte d.output.silence
    ∷ flag_byte d.reader.interrupt
    ∷ []

-- "mode, interrupt disable, [clock number], interrupt flag", and behind them the machine: 0 NTSC, 1 PAL
unfoldable pub frame_bytes : Frame → Bool → List ℕ
frame_bytes f pal =
    flag_byte f.mode
    ∷ flag_byte f.disable
    ∷ low f.clock
    ∷ high f.clock
    ∷ flag_byte f.interrupt
    ∷ flag_byte pal
    ∷ []

unfoldable pub state_bytes : State → List ℕ
state_bytes s =
    square_bytes s.square1
    ++ (square_bytes s.square2
    ++ (triangle_bytes s.triangle ++ (noise_bytes s.noise ++ (dmc_bytes s.dmc ++ frame_bytes s.frame s.pal))))

-- READ: the fields of a part whose first byte stands at `at`

unfoldable pub square_of : List ℕ → ℕ → Square
square_of b at =
    record {
      duty = byte_of b at;
      sequencer =
          record {
            timer = record { period = pair_of b (at + 10); count = pair_of b (at + 12) };
            half = flag_of b (at + 14);
            position = byte_of b (at + 15);
          };
      envelope =
          record {
            looped = flag_of b (at + 1);
            constant = flag_of b (at + 2);
            n = byte_of b (at + 3);
            start = flag_of b (at + 16);
            divider = byte_of b (at + 17);
            counter = byte_of b (at + 18);
          };
      sweep =
          record {
            enable = flag_of b (at + 4);
            negate = flag_of b (at + 5);
            period = byte_of b (at + 6);
            shift = byte_of b (at + 7);
            written = flag_of b (at + 8);
            divider = byte_of b (at + 9);
          };
      length = record { count = byte_of b (at + 19); enabled = flag_of b (at + 20) };
    }

unfoldable pub triangle_of : List ℕ → ℕ → Triangle
triangle_of b at =
    record {
      sequencer =
          record {
            timer = record { period = pair_of b (at + 4); count = pair_of b (at + 6) };
            position = byte_of b (at + 8);
          };
      linear =
          record {
            control = flag_of b at;
            reload = byte_of b (at + 1);
            count = byte_of b (at + 2);
            halt = flag_of b (at + 3);
          };
      length = record { count = byte_of b (at + 9); enabled = flag_of b (at + 10) };
    }

unfoldable pub noise_of : List ℕ → ℕ → Noise
noise_of b at =
    record {
      mode = flag_of b (at + 8);
      index = byte_of b (at + 9);
      shifter = record { timer = pair_of b (at + 10); register = pair_of b (at + 12) };
      envelope =
          record {
            looped = flag_of b at;
            constant = flag_of b (at + 1);
            n = byte_of b (at + 2);
            start = flag_of b (at + 3);
            divider = byte_of b (at + 4);
            counter = byte_of b (at + 5);
          };
      length = record { count = byte_of b (at + 6); enabled = flag_of b (at + 7) };
    }

unfoldable pub dmc_of : List ℕ → ℕ → Dmc
dmc_of b at =
    record {
      registers =
          record {
            enable = flag_of b at;
            looped = flag_of b (at + 1);
            index = byte_of b (at + 2);
            start = byte_of b (at + 6);
            size = byte_of b (at + 7);
          };
      output =
          record {
            timer = pair_of b (at + 3);
            level = byte_of b (at + 5);
            shift = byte_of b (at + 14);
            bits = byte_of b (at + 15);
            silence = flag_of b (at + 16);
          };
      reader =
          record {
            address = pair_of b (at + 8);
            remaining = pair_of b (at + 10);
            buffer = byte_of b (at + 12);
            full = flag_of b (at + 13);
            interrupt = flag_of b (at + 17);
          };
    }

unfoldable pub frame_of : List ℕ → ℕ → Frame
frame_of b at =
    record {
      mode = flag_of b at;
      disable = flag_of b (at + 1);
      clock = pair_of b (at + 2);
      interrupt = flag_of b (at + 4);
    }

unfoldable pub state_of : List ℕ → State
state_of b =
    record {
      square1 = square_of b 0;
      square2 = square_of b 21;
      triangle = triangle_of b 42;
      noise = noise_of b 53;
      dmc = dmc_of b 67;
      frame = frame_of b 85;
      pal = flag_of b 90;
    }

-- these bytes are a state's: read and written back, they are as they were
unfoldable pub is_state : List ℕ → Bool
is_state b = exactly (state_bytes (state_of b)) b

-- a state out of range: its first square's duty is 255
unfoldable pub outside : State
outside = state_of (255 ∷ [])

-- THE STATE THAT BYTES STAND FOR; bytes that are no state's stand for one out of range
unfoldable pub state_in : List ℕ → State
state_in b = pick (is_state b) (state_of b) outside
