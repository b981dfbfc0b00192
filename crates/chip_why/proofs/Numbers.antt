-- The number and the value that an answer carries. Assumes nothing.
use Prim.Native.Nat.{ℕ}
use mathlib.Core.Path.{◌≡◌, refl, ap, ◌∙◌}
use mathlib.Core.Bool.{Bool, true, false}
use lib.Dec.{eqb}
use Rattle.arith.specs.Pick.{pick, either}
use Rattle.chip_square.specs.declared.Square.{Square}
use Rattle.chip_noise.specs.declared.Noise.{Noise}
use Rattle.chip.specs.Range.{in_range}
use Rattle.chip.specs.declared.State.{State}
use Rattle.chip_why.specs.Value.{reason_number, reason_value, why_number, why_value}
use Rattle.chip_why.specs.Why.{first_reason, square_why, noise_why, channel_why, why_answer}
use Rattle.chip_why.specs.declared.Reason.{Reason}
use Rattle.chip_why.specs.declared.Reason.TheVariants.{Refused, NotEnabled, LengthZero, PeriodLow, TargetHigh, StepLow, VolumeZero, Sounds}

number_pick : (t : Bool) (a b : Reason) → reason_number (pick t a b) ≡ pick t (reason_number a) (reason_number b)
number_pick true a b = refl
number_pick false a b = refl

either_way : {A : Type 0} (t : Bool) (a : A) → pick t a a ≡ a
either_way true a = refl
either_way false a = refl

square_done : (second : Bool) (s : Square) → reason_number (square_why second s) ≡ 0
unfolding square_why first_reason
square_done second s = simp (number_pick, either_way)

noise_done : (c : Noise) → reason_number (noise_why c) ≡ 0
unfolding noise_why first_reason
noise_done c = simp (number_pick, either_way)

channel_done : (a b c : Bool) (r s t : Reason) → reason_number r ≡ 0 → reason_number s ≡ 0 → reason_number t ≡ 0
    → reason_number (pick a r (pick b s (pick c t (Refused 24)))) ≡ pick (either a (either b c)) 0 24
channel_done true b c r s t e f g = e
channel_done false true c r s t e f g = f
channel_done false false true r s t e f g = g
channel_done false false false r s t e f g = refl

-- WHICH CALLS ARE REFUSED
pub refusals : (channel : ℕ) (s : State) → reason_number (why_answer channel s) ≡ why_number channel s
unfolding why_answer channel_why why_number
refusals channel s =
    number_pick (in_range s) _ (Refused 2)
    ∙ ap (λ (n : ℕ). pick (in_range s) n 2)
    (channel_done (eqb channel 0) (eqb channel 1) (eqb channel 3) _ _ _
    (square_done false s.square1) (square_done true s.square2) (noise_done s.noise))

value_pick : (t : Bool) (a b : Reason) → reason_value (pick t a b) ≡ pick t (reason_value a) (reason_value b)
value_pick true a b = refl
value_pick false a b = refl

-- AND THE VALUES
pub values : (channel : ℕ) (s : State) → reason_value (why_answer channel s) ≡ why_value channel s
unfolding why_answer why_value
values channel s = value_pick (in_range s) (channel_why channel s) (Refused 2)

-- a refusal with number 0: never given
abbrev pub nought : Reason → Bool
nought (Refused n) = eqb n 0
nought NotEnabled = false
nought LengthZero = false
nought PeriodLow = false
nought TargetHigh = false
nought StepLow = false
nought VolumeZero = false
nought (Sounds n) = false

nought_pick : (t : Bool) (a b : Reason) → nought (pick t a b) ≡ pick t (nought a) (nought b)
nought_pick true a b = refl
nought_pick false a b = refl

pub never_nought : (channel : ℕ) (s : State) → nought (why_answer channel s) ≡ false
unfolding why_answer channel_why square_why noise_why first_reason
never_nought channel s = simp (nought_pick, either_way)
