-- The number and the values of what the meter answers. Assumes nothing.
use Prim.Native.Nat.{ℕ}
use mathlib.Core.Path.{◌≡◌, refl, ap, ◌∙◌}
use mathlib.Core.Bool.{Bool, true, false}
use mathlib.Core.List.{List, [], ◌∷◌}
use Rattle.arith.specs.Pick.{pick}
use Rattle.meter.specs.declared.Metering.{Metering}
use Rattle.meter.specs.declared.Metering.TheVariants.{Refused, NoLevels, Silent, Steady, Moving}
use Rattle.meter.specs.Levels.{any, all_are, any_above, lowest, highest}
use Rattle.meter.specs.Measure.{measured_number, measured_levels, meter_number, meter_levels, MeasuredIs, measure_of}
use Rattle.meter.specs.Meter.{metered_number, values_of, fractions, in_fractions, meter_of}

-- 0 but where a level is above
by_case : (high silent steady : Bool) (v a b : ℕ)
    → measured_number (pick high (Refused 29) (pick silent Silent (pick steady (Steady v) (Moving a b)))) ≡ pick high 29 0
by_case true s t v a b = refl
by_case false true t v a b = refl
by_case false false true v a b = refl
by_case false false false v a b = refl

by_levels : (high silent steady : Bool) (v a b : ℕ)
    → measured_levels (pick high (Refused 29) (pick silent Silent (pick steady (Steady v) (Moving a b)))) ≡ pick high [] (pick silent [] (pick steady (v ∷ []) (a ∷ b ∷ [])))
by_levels true s t v a b = refl
by_levels false true t v a b = refl
by_levels false false true v a b = refl
by_levels false false false v a b = refl

measured_is : (l : List ℕ) → MeasuredIs l (measure_of l)
unfolding measure_of meter_number meter_levels any
measured_is [] = (refl, refl)
measured_is (x ∷ l) =
    (by_case (any_above (x ∷ l)) (all_are 0 (x ∷ l)) (all_are x l) x (lowest x l) (highest x l), by_levels (any_above (x ∷ l)) (all_are 0 (x ∷ l)) (all_are x l) x (lowest x l) (highest x l))

pub measured_number_lem : (l : List ℕ) → measured_number (measure_of l) ≡ meter_number l
measured_number_lem l = (measured_is l).0

pub measured_levels_lem : (l : List ℕ) → measured_levels (measure_of l) ≡ meter_levels l
measured_levels_lem l = (measured_is l).1

number_same : (m : Metering ℕ) → metered_number (in_fractions m) ≡ measured_number m
number_same (Refused k) = refl
number_same NoLevels = refl
number_same Silent = refl
number_same (Steady v) = refl
number_same (Moving a b) = refl

values_same : (m : Metering ℕ) → values_of (in_fractions m) ≡ fractions (measured_levels m)
values_same (Refused k) = refl
values_same NoLevels = refl
values_same Silent = refl
values_same (Steady v) = refl
values_same (Moving a b) = refl

pub metered_number_lem : (l : List ℕ) → metered_number (meter_of l) ≡ meter_number l
metered_number_lem l = number_same (measure_of l) ∙ measured_number_lem l

pub metered_values : (l : List ℕ) → values_of (meter_of l) ≡ fractions (measured_levels (measure_of l))
metered_values l = values_same (measure_of l)

pub metered_levels : (l : List ℕ) → values_of (meter_of l) ≡ fractions (meter_levels l)
metered_levels l = metered_values l ∙ ap fractions (measured_levels_lem l)
