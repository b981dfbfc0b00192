-- Helper: nobody has to believe this; the level kept with what the channels gave.
-- What the five channels give, and the level that it is mixed to.
use Rattle.std.specs.Prelude.{ℕ, Bool, true, false, eqb}
use Rattle.arith.specs.Pick.{both}
use Rattle.chip_square.specs.Square.{square_output}
use Rattle.chip_triangle.specs.Triangle.{triangle_output}
use Rattle.chip_noise.specs.Noise.{noise_output}
use Rattle.chip_dmc.specs.Clock.{dmc_output}
use Rattle.chip_mixer.specs.Mixer.{mixed}
use Rattle.chip.specs.Level.{state_level}
use Rattle.chip.specs.declared.State.{State}
use Rattle.run_plain.specs.declared.Given.{Given}
use Rattle.run_plain.specs.declared.Heard.{Heard}

unfoldable pub given_of : State → Given
given_of s =
    record {
      square1 = square_output false s.square1;
      square2 = square_output true s.square2;
      triangle = triangle_output s.triangle;
      noise = noise_output s.noise;
      dmc = dmc_output s.dmc;
    }

unfoldable pub mixed_of : Given → ℕ
mixed_of g = mixed g.square1 g.square2 g.triangle g.noise g.dmc

unfoldable pub same_given : Given → Given → Bool
same_given g h =
    both (both (eqb g.square1 h.square1) (eqb g.square2 h.square2))
    (both (both (eqb g.triangle h.triangle) (eqb g.noise h.noise)) (eqb g.dmc h.dmc))

unfoldable pub heard_of : State → Heard
heard_of s = record { given = given_of s; level = state_level s }

-- nothing given
unfoldable pub silence : Heard
silence = record { given = record { square1 = 0; square2 = 0; triangle = 0; noise = 0; dmc = 0 }; level = 0 }
