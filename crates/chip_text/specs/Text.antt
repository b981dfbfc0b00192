-- A state in words: every field of document 01's "State, ranges and power-on", in its order, a line each, decimals. (The machine isn't in that list.)
use Rattle.std.specs.Prelude.{ℕ, Bool, List, ◌++◌}
use Rattle.arith.specs.Pick.{pick}
use Rattle.text.specs.Ascii.{bytes}
use Rattle.text_lines.specs.Lines.{keyed_line}
use Rattle.chip_envelope.specs.declared.Envelope.{Envelope}
use Rattle.chip_sweep.specs.declared.Sweep.{Sweep}
use Rattle.chip_length.specs.declared.Length.{Length}
use Rattle.chip_linear.specs.declared.Linear.{Linear}
use Rattle.chip_timer.specs.declared.Timer.{Timer}
use Rattle.chip_square.specs.declared.Sequencer.{Sequencer}
use Rattle.chip_square.specs.declared.Square.{Square}
use Rattle.chip_triangle.specs.declared.Triangle.{Triangle}
use Rattle.chip_noise.specs.declared.Noise.{Noise}
use Rattle.chip_dmc.specs.declared.Dmc.{Dmc}
use Rattle.chip_frame.specs.declared.Frame.{Frame}
use Rattle.chip.specs.declared.State.{State}

-- `CHANNEL.KEYN`; a flag is 0 or 1
unfoldable pub field_line : List ℕ → List ℕ → ℕ → List ℕ
field_line channel key n = channel ++ keyed_line key n

unfoldable pub flag_line : List ℕ → List ℕ → Bool → List ℕ
flag_line channel key b = field_line channel key (pick b 1 0)

-- "loop (also halt) and constant flags; n"
unfoldable pub volume_lines : List ℕ → Envelope → List ℕ
volume_lines c e =
    flag_line c (bytes "loop=") e.looped
    ++ (flag_line c (bytes "constant=") e.constant
    ++ field_line c (bytes "n=") e.n)

-- "envelope start flag, divider, counter"
unfoldable pub envelope_lines : List ℕ → Envelope → List ℕ
envelope_lines c e =
    flag_line c (bytes "envelope_start=") e.start
    ++ (field_line c (bytes "envelope_divider=") e.divider
    ++ field_line c (bytes "envelope_counter=") e.counter)

-- "sweep enable, negate, P, S"
unfoldable pub sweep_register_lines : List ℕ → Sweep → List ℕ
sweep_register_lines c w =
    flag_line c (bytes "sweep_enable=") w.enable
    ++ (flag_line c (bytes "negate=") w.negate
    ++ (field_line c (bytes "sweep_period=") w.period
    ++ field_line c (bytes "sweep_shift=") w.shift))

-- the same, "sweep-written flag; sweep divider"
unfoldable pub sweep_lines : List ℕ → Sweep → List ℕ
sweep_lines c w =
    sweep_register_lines c w
    ++ (flag_line c (bytes "sweep_written=") w.written
    ++ field_line c (bytes "sweep_divider=") w.divider)

-- "period; timer"
unfoldable pub timer_lines : List ℕ → Timer → List ℕ
timer_lines c t =
    field_line c (bytes "period=") t.period ++ field_line c (bytes "timer=") t.count

-- "length; enabled"
unfoldable pub length_lines : List ℕ → Length → List ℕ
length_lines c l =
    field_line c (bytes "length=") l.count ++ flag_line c (bytes "enabled=") l.enabled

-- "period; timer; half flag; position"
unfoldable pub sequencer_lines : List ℕ → Sequencer → List ℕ
sequencer_lines c q =
    timer_lines c q.timer
    ++ (flag_line c (bytes "half=") q.half
    ++ field_line c (bytes "position=") q.position)

-- "Each square: duty; loop and constant flags; n; sweep ..; sweep divider; period; timer; half flag; position; envelope ..; length; enabled."
unfoldable pub square_lines : List ℕ → Square → List ℕ
square_lines c q =
    field_line c (bytes "duty=") q.duty
    ++ (volume_lines c q.envelope
    ++ (sweep_lines c q.sweep
    ++ (sequencer_lines c q.sequencer
    ++ (envelope_lines c q.envelope
    ++ length_lines c q.length))))

-- "control (also halt), reload and linear, linear-halt flag"
unfoldable pub linear_lines : List ℕ → Linear → List ℕ
linear_lines c l =
    flag_line c (bytes "control=") l.control
    ++ (field_line c (bytes "reload=") l.reload
    ++ (field_line c (bytes "linear=") l.count
    ++ flag_line c (bytes "linear_halt=") l.halt))

-- "Triangle: control (also halt), reload and linear, linear-halt flag, period and timer .., position, length, enabled."
unfoldable pub triangle_lines : List ℕ → Triangle → List ℕ
triangle_lines c t =
    linear_lines c t.linear
    ++ (timer_lines c t.sequencer.timer
    ++ (field_line c (bytes "position=") t.sequencer.position
    ++ length_lines c t.length))

-- "mode, index, timer, shift register"
unfoldable pub shifter_lines : List ℕ → Noise → List ℕ
shifter_lines c n =
    flag_line c (bytes "mode=") n.mode
    ++ (field_line c (bytes "index=") n.index
    ++ (field_line c (bytes "timer=") n.shifter.timer
    ++ field_line c (bytes "shift_register=") n.shifter.register))

-- "Noise: loop, constant, n, envelope, length and enabled as a square's, mode, index, timer, shift register."
unfoldable pub noise_lines : List ℕ → Noise → List ℕ
noise_lines c n =
    volume_lines c n.envelope
    ++ (envelope_lines c n.envelope
    ++ (length_lines c n.length
    ++ shifter_lines c n))

-- "interrupt enable, loop, index, timer"
unfoldable pub dmc_rate_lines : List ℕ → Dmc → List ℕ
dmc_rate_lines c d =
    flag_line c (bytes "interrupt_enable=") d.registers.enable
    ++ (flag_line c (bytes "loop=") d.registers.looped
    ++ (field_line c (bytes "index=") d.registers.index
    ++ field_line c (bytes "timer=") d.output.timer))

-- "level, address byte, length byte"
unfoldable pub dmc_start_lines : List ℕ → Dmc → List ℕ
dmc_start_lines c d =
    field_line c (bytes "level=") d.output.level
    ++ (field_line c (bytes "address_byte=") d.registers.start
    ++ field_line c (bytes "length_byte=") d.registers.size)

-- "address, remaining, buffer and its full flag"
unfoldable pub dmc_reader_lines : List ℕ → Dmc → List ℕ
dmc_reader_lines c d =
    field_line c (bytes "address=") d.reader.address
    ++ (field_line c (bytes "remaining=") d.reader.remaining
    ++ (field_line c (bytes "buffer=") d.reader.buffer
    ++ flag_line c (bytes "full=") d.reader.full))

-- "shift byte, bits, silence, interrupt flag"
unfoldable pub dmc_shift_lines : List ℕ → Dmc → List ℕ
dmc_shift_lines c d =
    field_line c (bytes "shift_byte=") d.output.shift
    ++ (field_line c (bytes "bits=") d.output.bits
    ++ (flag_line c (bytes "silence=") d.output.silence
    ++ flag_line c (bytes "interrupt=") d.reader.interrupt))

-- "DMC: interrupt enable, loop, index, timer, level, address byte, length byte, address, remaining, buffer and its full flag, shift byte, bits, silence,
-- interrupt flag."
unfoldable pub dmc_lines : List ℕ → Dmc → List ℕ
dmc_lines c d =
    dmc_rate_lines c d
    ++ (dmc_start_lines c d
    ++ (dmc_reader_lines c d
    ++ dmc_shift_lines c d))

-- "Frame: mode, interrupt disable, [clock number], interrupt flag." (The clock number stands in the place of phase and step: request 8.)
unfoldable pub frame_lines : List ℕ → Frame → List ℕ
frame_lines c f =
    flag_line c (bytes "mode=") f.mode
    ++ (flag_line c (bytes "disable=") f.disable
    ++ (field_line c (bytes "clock=") f.clock
    ++ flag_line c (bytes "interrupt=") f.interrupt))

-- EVERY FIELD
unfoldable pub state_text : State → List ℕ
state_text s =
    square_lines (bytes "square1.") s.square1
    ++ (square_lines (bytes "square2.") s.square2
    ++ (triangle_lines (bytes "triangle.") s.triangle
    ++ (noise_lines (bytes "noise.") s.noise
    ++ (dmc_lines (bytes "dmc.") s.dmc
    ++ frame_lines (bytes "frame.") s.frame))))
