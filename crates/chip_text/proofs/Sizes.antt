-- How long the text is: 2,560 bytes always hold it. Assumes nothing.
use Prim.Native.Nat.{ℕ, ◌+◌, ◌*◌, ◌≤◌}
use mathlib.Core.Bool.{Bool}
use mathlib.Core.List.{List}
use native.Mathlib.Omega.{arith}
use lib.ListN.{length, length-append}
use Rattle.arith.specs.Pick.{pick}
use Rattle.text.specs.Ascii.{bytes}
use Rattle.text_lines.proofs.Sizes.{UpTo, keyed_size}
use Rattle.chip_envelope.specs.declared.Envelope.{Envelope}
use Rattle.chip_sweep.specs.declared.Sweep.{Sweep}
use Rattle.chip_length.specs.declared.Length.{Length}
use Rattle.chip_linear.specs.declared.Linear.{Linear}
use Rattle.chip_timer.specs.declared.Timer.{Timer}
use Rattle.chip_square.specs.declared.Sequencer.{Sequencer}
use Rattle.chip_square.specs.declared.Square.{Square}
use Rattle.chip_triangle.specs.declared.Triangle.{Triangle}
use Rattle.chip_noise.specs.declared.Noise.{Noise}
use Rattle.chip_dmc.specs.declared.Dmc.{Dmc}
use Rattle.chip_frame.specs.declared.Frame.{Frame}
use Rattle.chip.specs.declared.State.{State}
use Rattle.chip_text.specs.Text.{field_line, flag_line, volume_lines, envelope_lines, sweep_register_lines, sweep_lines, timer_lines, length_lines, sequencer_lines, square_lines}
use Rattle.chip_text.specs.Text.{linear_lines, triangle_lines, shifter_lines, noise_lines, dmc_rate_lines, dmc_start_lines, dmc_reader_lines, dmc_shift_lines, dmc_lines, frame_lines, state_text}

-- by the length of the channel's name
module _ (c : List ℕ) where
  field_size : (key : List ℕ) (n : ℕ) → UpTo (length c + length key + 11) (field_line c key n)
  unfolding field_line
  field_size key n = rw length-append (omega (arith, keyed_size key n))

  flag_size : (key : List ℕ) (b : Bool) → UpTo (length c + length key + 11) (flag_line c key b)
  unfolding flag_line
  flag_size key b = field_size key (pick b 1 0)

  volume_size : (e : Envelope) → UpTo (3 * length c + 49) (volume_lines c e)
  unfolding volume_lines
  volume_size e = simp length-append (omega (arith, flag_size (bytes "loop=") e.looped, flag_size (bytes "constant=") e.constant, field_size (bytes "n=") e.n))

  envelope_size : (e : Envelope) → UpTo (3 * length c + 82) (envelope_lines c e)
  unfolding envelope_lines
  envelope_size e = simp length-append (omega (arith, flag_size (bytes "envelope_start=") e.start, field_size (bytes "envelope_divider=") e.divider, field_size (bytes "envelope_counter=") e.counter))

  sweep_register_size : (w : Sweep) → UpTo (4 * length c + 89) (sweep_register_lines c w)
  unfolding sweep_register_lines
  sweep_register_size w = simp length-append (omega (arith, flag_size (bytes "sweep_enable=") w.enable, flag_size (bytes "negate=") w.negate, field_size (bytes "sweep_period=") w.period, field_size (bytes "sweep_shift=") w.shift))

  sweep_size : (w : Sweep) → UpTo (6 * length c + 139) (sweep_lines c w)
  unfolding sweep_lines
  sweep_size w = simp length-append (omega (arith, sweep_register_size w, flag_size (bytes "sweep_written=") w.written, field_size (bytes "sweep_divider=") w.divider))

  timer_size : (t : Timer) → UpTo (2 * length c + 35) (timer_lines c t)
  unfolding timer_lines
  timer_size t = simp length-append (omega (arith, field_size (bytes "period=") t.period, field_size (bytes "timer=") t.count))

  length_size : (l : Length) → UpTo (2 * length c + 37) (length_lines c l)
  unfolding length_lines
  length_size l = simp length-append (omega (arith, field_size (bytes "length=") l.count, flag_size (bytes "enabled=") l.enabled))

  sequencer_size : (q : Sequencer) → UpTo (4 * length c + 71) (sequencer_lines c q)
  unfolding sequencer_lines
  sequencer_size q = simp length-append (omega (arith, timer_size q.timer, flag_size (bytes "half=") q.half, field_size (bytes "position=") q.position))

  square_size : (q : Square) → UpTo (19 * length c + 394) (square_lines c q)
  unfolding square_lines
  square_size q = simp length-append (omega (arith, field_size (bytes "duty=") q.duty, volume_size q.envelope, sweep_size q.sweep, sequencer_size q.sequencer, envelope_size q.envelope, length_size q.length))

  linear_size : (l : Linear) → UpTo (4 * length c + 78) (linear_lines c l)
  unfolding linear_lines
  linear_size l = simp length-append (omega (arith, flag_size (bytes "control=") l.control, field_size (bytes "reload=") l.reload, field_size (bytes "linear=") l.count, flag_size (bytes "linear_halt=") l.halt))

  triangle_size : (t : Triangle) → UpTo (9 * length c + 170) (triangle_lines c t)
  unfolding triangle_lines
  triangle_size t = simp length-append (omega (arith, linear_size t.linear, timer_size t.sequencer.timer, field_size (bytes "position=") t.sequencer.position, length_size t.length))

  shifter_size : (n : Noise) → UpTo (4 * length c + 76) (shifter_lines c n)
  unfolding shifter_lines
  shifter_size n = simp length-append (omega (arith, flag_size (bytes "mode=") n.mode, field_size (bytes "index=") n.index, field_size (bytes "timer=") n.shifter.timer, field_size (bytes "shift_register=") n.shifter.register))

  noise_size : (n : Noise) → UpTo (12 * length c + 244) (noise_lines c n)
  unfolding noise_lines
  noise_size n = simp length-append (omega (arith, volume_size n.envelope, envelope_size n.envelope, length_size n.length, shifter_size n))

  dmc_rate_size : (d : Dmc) → UpTo (4 * length c + 78) (dmc_rate_lines c d)
  unfolding dmc_rate_lines
  dmc_rate_size d = simp length-append (omega (arith, flag_size (bytes "interrupt_enable=") d.registers.enable, flag_size (bytes "loop=") d.registers.looped, field_size (bytes "index=") d.registers.index, field_size (bytes "timer=") d.output.timer))

  dmc_start_size : (d : Dmc) → UpTo (3 * length c + 64) (dmc_start_lines c d)
  unfolding dmc_start_lines
  dmc_start_size d = simp length-append (omega (arith, field_size (bytes "level=") d.output.level, field_size (bytes "address_byte=") d.registers.start, field_size (bytes "length_byte=") d.registers.size))

  dmc_reader_size : (d : Dmc) → UpTo (4 * length c + 74) (dmc_reader_lines c d)
  unfolding dmc_reader_lines
  dmc_reader_size d = simp length-append (omega (arith, field_size (bytes "address=") d.reader.address, field_size (bytes "remaining=") d.reader.remaining, field_size (bytes "buffer=") d.reader.buffer, flag_size (bytes "full=") d.reader.full))

  dmc_shift_size : (d : Dmc) → UpTo (4 * length c + 78) (dmc_shift_lines c d)
  unfolding dmc_shift_lines
  dmc_shift_size d = simp length-append (omega (arith, field_size (bytes "shift_byte=") d.output.shift, field_size (bytes "bits=") d.output.bits, flag_size (bytes "silence=") d.output.silence, flag_size (bytes "interrupt=") d.reader.interrupt))

  dmc_size : (d : Dmc) → UpTo (15 * length c + 294) (dmc_lines c d)
  unfolding dmc_lines
  dmc_size d = simp length-append (omega (arith, dmc_rate_size d, dmc_start_size d, dmc_reader_size d, dmc_shift_size d))

  frame_size : (f : Frame) → UpTo (4 * length c + 73) (frame_lines c f)
  unfolding frame_lines
  frame_size f = simp length-append (omega (arith, flag_size (bytes "mode=") f.mode, flag_size (bytes "disable=") f.disable, field_size (bytes "clock=") f.clock, flag_size (bytes "interrupt=") f.interrupt))

pub state_size_lem : (s : State) → length (state_text s) ≤ 2560
unfolding state_text
state_size_lem s = simp length-append (omega (arith, square_size (bytes "square1.") s.square1, square_size (bytes "square2.") s.square2, triangle_size (bytes "triangle.") s.triangle, noise_size (bytes "noise.") s.noise, dmc_size (bytes "dmc.") s.dmc, frame_size (bytes "frame.") s.frame))
