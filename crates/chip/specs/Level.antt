-- Document 01, "Mixer and records": the level of a state.
use Rattle.std.specs.Prelude.{ℕ, true, false}
use Rattle.chip_square.specs.Square.{square_output}
use Rattle.chip_triangle.specs.Triangle.{triangle_output}
use Rattle.chip_noise.specs.Noise.{noise_output}
use Rattle.chip_dmc.specs.Clock.{dmc_output}
use Rattle.chip_mixer.specs.Mixer.{mixed}
use Rattle.chip.specs.declared.State.{State}

unfoldable pub state_level : State → ℕ
state_level s =
    mixed (square_output false s.square1) (square_output true s.square2) (triangle_output s.triangle) (noise_output s.noise) (dmc_output s.dmc)
