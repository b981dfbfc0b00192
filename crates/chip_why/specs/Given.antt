-- What a channel gives the mixer, by its number, and what request 6 promises of an answer, held against it.
use Rattle.std.specs.Prelude.{ℕ, ◌≤◌, ◌≡◌, Bool, true, false, eqb}
use Rattle.arith.specs.Pick.{pick}
use Rattle.chip_square.specs.Square.{square_output}
use Rattle.chip_noise.specs.Noise.{noise_output}
use Rattle.chip_triangle.specs.Triangle.{triangle_output}
use Rattle.chip_dmc.specs.Clock.{dmc_output}
use Rattle.chip_mixer.specs.Mixer.{mixed}
use Rattle.chip.specs.Level.{state_level}
use Rattle.chip.specs.Range.{in_range}
use Rattle.chip.specs.declared.State.{State}
use Rattle.chip_why.specs.Why.{why_answer}
use Rattle.chip_why.specs.declared.Reason.{Reason}
use Rattle.chip_why.specs.declared.Reason.TheVariants.{Refused, NotEnabled, LengthZero, PeriodLow, TargetHigh, StepLow, VolumeZero, Sounds}

-- 0 square 1, 1 square 2, 3 the noise; any other number stands for none of the three, and gives 0
unfoldable pub given_by : ℕ → State → ℕ
given_by channel s =
    pick (eqb channel 0) (square_output false s.square1)
    (pick (eqb channel 1) (square_output true s.square2)
    (pick (eqb channel 3) (noise_output s.noise) 0))

-- what it gives is what the level is mixed from
abbrev pub MixedFrom : Type 0
MixedFrom =
    (s : State) → state_level s ≡ mixed (given_by 0 s) (given_by 1 s) (triangle_output s.triangle) (given_by 3 s) (dmc_output s.dmc)

-- "'Sounds' is answered exactly when the channel gives a nonzero number", "with its number from 1 to 15": where it gives one ..
abbrev pub SoundsWhere : Type 0
SoundsWhere = (channel : ℕ) (s : State) → in_range s ≡ true → (given_by channel s ≡ 0 → ⊥) → why_answer channel s ≡ Sounds (given_by channel s)

-- .. and only there
pub record Heard (channel : ℕ) (s : State) (n : ℕ) : Type 0 where
  pub given : n ≡ given_by channel s
  pub least : 1 ≤ n
  pub most : n ≤ 15

abbrev pub SoundsOnly : Type 0
SoundsOnly = (channel : ℕ) (s : State) (n : ℕ) → why_answer channel s ≡ Sounds n → Heard channel s n

-- one of the two sweep reasons
abbrev pub of_sweep : Reason → Bool
of_sweep (Refused n) = false
of_sweep NotEnabled = false
of_sweep LengthZero = false
of_sweep PeriodLow = true
of_sweep TargetHigh = true
of_sweep StepLow = false
of_sweep VolumeZero = false
of_sweep (Sounds n) = false

-- "The two sweep reasons are for squares only."
abbrev pub NeverNoise : Type 0
NeverNoise = (s : State) → of_sweep (why_answer 3 s) ≡ false
