-- The meter at the boundary, each answer one number.
use Rattle.std.specs.Prelude.{ℕ, ◌+◌, ◌*◌, ◌^◌, List, [], ◌∷◌, ltb, Option, None, Some}
use Rattle.arith.specs.Pick.{pick}
use Rattle.meter.specs.declared.Metering.{Metering}
use Rattle.meter.specs.declared.Metering.TheVariants.{Refused, NoLevels, Silent, Steady, Moving}
use Rattle.meter.specs.Measure.{measured_number, measured_levels, measure_of}
use Rattle.meter.specs.Records.{record_levels, levels_heard}

-- the case of an answer: "0 none, 1 silent, 2 steady, 3 moving", and 0 of a refusal
abbrev pub case_of : Metering ℕ → ℕ
case_of (Refused k) = 0
case_of NoLevels = 0
case_of Silent = 1
case_of (Steady v) = 2
case_of (Moving a b) = 3

-- the first and the last of its levels, 0 where it has none
abbrev pub first_in : List ℕ → ℕ
first_in [] = 0
first_in (a ∷ l) = a

abbrev pub last_in : List ℕ → ℕ
last_in [] = 0
last_in (a ∷ []) = a
last_in (a ∷ b ∷ l) = last_in (b ∷ l)

-- its lowest and its highest level
abbrev pub lowest_of : Metering ℕ → ℕ
lowest_of m = first_in (measured_levels m)

abbrev pub highest_of : Metering ℕ → ℕ
highest_of m = last_in (measured_levels m)

-- "number + 2^8 x case + 2^16 x lowest + 2^32 x highest"
abbrev pub meter_packed : Metering ℕ → ℕ
meter_packed m = measured_number m + 2 ^ 8 * case_of m + 2 ^ 16 * lowest_of m + 2 ^ 32 * highest_of m

-- "the level before the first record; a number of more than 32 bits counts nothing"
abbrev pub before_of : ℕ → Option ℕ
before_of before = pick (ltb before (2 ^ 32)) (Some before) None

abbrev pub records_packed : List ℕ → ℕ → ℕ → ℕ → ℕ
records_packed words start count before = meter_packed (measure_of (levels_heard (before_of before) (record_levels start count words)))
