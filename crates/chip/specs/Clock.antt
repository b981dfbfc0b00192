-- Document 01, "Dividers and one clock": one clock of the chip, and a frame step.
use Rattle.std.specs.Prelude.{ℕ, Bool, true, false, List}
use Rattle.arith.specs.Pick.{pick}
use Rattle.chip_square.specs.Square.{square_timed, square_enveloped, square_swept}
use Rattle.chip_triangle.specs.Triangle.{triangle_timed, triangle_linear, triangle_lengthened}
use Rattle.chip_noise.specs.Noise.{noise_timed, noise_enveloped, noise_lengthened}
use Rattle.chip_dmc.specs.Clock.{dmc_timed, dmc_read}
use Rattle.chip_frame.specs.Frame.{next_step, frame_due, frame_moved, is_quarter, is_half, frame_stepped}
use Rattle.chip_dmc.specs.declared.Dmc.{Dmc}
use Rattle.chip_frame.specs.declared.Frame.{Frame}
use Rattle.chip_tables.specs.Table.{noise_period, dmc_period, frame_times}
use Rattle.chip.specs.declared.State.{State}

abbrev pub with_dmc : State → Dmc → State
with_dmc s d =
    record {
      square1 = s.square1;
      square2 = s.square2;
      triangle = s.triangle;
      noise = s.noise;
      dmc = d;
      frame = s.frame;
      pal = s.pal;
    }

abbrev pub with_frame : State → Frame → State
with_frame s f =
    record {
      square1 = s.square1;
      square2 = s.square2;
      triangle = s.triangle;
      noise = s.noise;
      dmc = s.dmc;
      frame = f;
      pal = s.pal;
    }

-- "all timers with what they drive (triangle gated by its counters as they stood at the start of the clock)"
unfoldable pub timers_clocked : State → State
timers_clocked s =
    record {
      square1 = square_timed s.square1;
      square2 = square_timed s.square2;
      triangle = triangle_timed s.triangle;
      noise = noise_timed (noise_period s.pal s.noise.index) s.noise;
      dmc = dmc_timed (dmc_period s.pal s.dmc.registers.index) s.dmc;
      frame = s.frame;
      pal = s.pal;
    }

-- "the DMC reader"
unfoldable pub reader_clocked : List ℕ → State → State
reader_clocked memory s = with_dmc s (dmc_read memory s.dmc)

-- "envelopes and linear counter"
unfoldable pub quarter_frame : State → State
quarter_frame s =
    record {
      square1 = square_enveloped s.square1;
      square2 = square_enveloped s.square2;
      triangle = triangle_linear s.triangle;
      noise = noise_enveloped s.noise;
      dmc = s.dmc;
      frame = s.frame;
      pal = s.pal;
    }

-- "lengths and sweeps"
unfoldable pub half_frame : State → State
half_frame s =
    record {
      square1 = square_swept false s.square1;
      square2 = square_swept true s.square2;
      triangle = triangle_lengthened s.triangle;
      noise = noise_lengthened s.noise;
      dmc = s.dmc;
      frame = s.frame;
      pal = s.pal;
    }

-- what a step clocks, where it does
abbrev pub quarter_if : Bool → State → State
quarter_if on s = pick on (quarter_frame s) s

abbrev pub half_if : Bool → State → State
half_if on s = pick on (half_frame s) s

-- a step of the frame: what it clocks, then its flag
unfoldable pub stepped : ℕ → State → State
stepped step s =
    with_frame (half_if (is_half step s.frame) (quarter_if (is_quarter step s.frame) s)) (frame_stepped step s.frame)

-- whether the next clock brings a frame step
abbrev pub step_due : State → Bool
step_due s = frame_due (frame_times s.pal) s.frame

-- the frame's clock number (document 01's "frame divider"), "then its step if due"
unfoldable pub framed : State → State
framed s =
    pick (step_due s)
    (stepped (next_step (frame_times s.pal) s.frame) (with_frame s (frame_moved (frame_times s.pal) s.frame)))
    (with_frame s (frame_moved (frame_times s.pal) s.frame))

-- "One clock, in order: all timers with what they drive ..; the DMC reader; the frame divider, then its step if due."
unfoldable pub chip_clock : List ℕ → State → State
chip_clock memory s = framed (reader_clocked memory (timers_clocked s))
