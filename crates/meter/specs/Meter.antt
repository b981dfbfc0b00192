-- Request 11: "every level as the exact fraction of 32,768".
use Rattle.std.specs.Prelude.{ℕ, ◌≡◌, List, [], ◌∷◌, Float}
use Rattle.chip_mixer.specs.Fraction.{fraction_of}
use Rattle.meter.specs.declared.Metering.{Metering}
use Rattle.meter.specs.declared.Metering.TheVariants.{Refused, NoLevels, Silent, Steady, Moving}
use Rattle.meter.specs.Measure.{number_in, values_in, measured_number, measured_levels, measure_of}

-- the number and the values of an answer in fractions
abbrev pub metered_number : Metering Float → ℕ
metered_number m = number_in m

abbrev pub values_of : Metering Float → List Float
values_of m = values_in m

-- levels as fractions
abbrev pub fractions : List ℕ → List Float
fractions [] = []
fractions (v ∷ l) = fraction_of v ∷ fractions l

-- an answer has the number of the one in whole levels, and its levels as fractions
abbrev pub MeteredIs : Metering ℕ → Metering Float → Type 0
MeteredIs m r = (metered_number r ≡ measured_number m) × (values_of r ≡ fractions (measured_levels m))

-- an answer in whole levels with every level as its fraction
abbrev pub in_fractions : Metering ℕ → Metering Float
in_fractions (Refused k) = Refused k
in_fractions NoLevels = NoLevels
in_fractions Silent = Silent
in_fractions (Steady v) = Steady (fraction_of v)
in_fractions (Moving a b) = Moving (fraction_of a) (fraction_of b)

-- the meter of a list of levels
abbrev pub meter_of : List ℕ → Metering Float
meter_of l = in_fractions (measure_of l)
