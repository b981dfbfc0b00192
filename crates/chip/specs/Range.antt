-- Document 01, "State, ranges and power-on": the whole state.
use Rattle.std.specs.Prelude.{ℕ, ◌≤◌, Bool, List, get_or}
use Rattle.arith.specs.Pick.{both}
use Rattle.chip_square.specs.Range.{square_in, square_on}
use Rattle.chip_triangle.specs.Triangle.{triangle_in, triangle_on}
use Rattle.chip_noise.specs.Noise.{noise_in, noise_on}
use Rattle.chip_dmc.specs.Range.{dmc_in, dmc_on}
use Rattle.chip_frame.specs.Frame.{frame_in, frame_on}
use Rattle.chip_tables.specs.Table.{noise_period, dmc_period, noise_top, dmc_top, frame_times}
use Rattle.chip.specs.declared.State.{State}

-- every field within its range
unfoldable pub in_range : State → Bool
in_range s =
    both (square_in s.square1)
    (both (square_in s.square2)
    (both (triangle_in s.triangle) (both (noise_in (noise_top s.pal) s.noise) (both (dmc_in (dmc_top s.pal) s.dmc) (frame_in (frame_times s.pal) s.frame)))))

-- "Power-on is house: flags clear, numbers 0, except as marked." Request 9: "a machine, NTSC or PAL, fixed at power-on"; "timers for noise and DMC are the
-- machine's periods at index 0"
unfoldable pub power_on : Bool → State
power_on pal =
    record {
      square1 = square_on;
      square2 = square_on;
      triangle = triangle_on;
      noise = noise_on (noise_period pal 0);
      dmc = dmc_on (dmc_period pal 0);
      frame = frame_on;
      pal = pal;
    }

-- sample memory holds bytes
abbrev pub Bytes : List ℕ → Type 0
Bytes memory = (i : ℕ) → get_or memory i 0 ≤ 255
