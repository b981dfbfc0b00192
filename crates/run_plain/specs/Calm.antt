-- Helper: nobody has to believe this; the clock of a loop in which no frame step comes.
-- A clock that brings no frame step.
use Rattle.std.specs.Prelude.{ℕ, Bool, List, eqb}
use Rattle.chip_square.specs.Square.{square_timed}
use Rattle.chip_triangle.specs.Triangle.{triangle_timed}
use Rattle.chip_noise.specs.Noise.{noise_timed}
use Rattle.chip_dmc.specs.Clock.{dmc_timed, dmc_read}
use Rattle.chip_frame.specs.Frame.{next_step, frame_moved}
use Rattle.chip_tables.specs.Table.{noise_period, dmc_period, frame_times}
use Rattle.chip.specs.declared.State.{State}

-- the next clock brings no frame step
unfoldable pub is_calm : State → Bool
is_calm s = eqb (next_step (frame_times s.pal) s.frame) 0

-- the chip's clock where that is so
unfoldable pub calm_clock : List ℕ → State → State
calm_clock memory s =
    record {
      square1 = square_timed s.square1;
      square2 = square_timed s.square2;
      triangle = triangle_timed s.triangle;
      noise = noise_timed (noise_period s.pal s.noise.index) s.noise;
      dmc = dmc_read memory (dmc_timed (dmc_period s.pal s.dmc.registers.index) s.dmc);
      frame = frame_moved (frame_times s.pal) s.frame;
      pal = s.pal;
    }
