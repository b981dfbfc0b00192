-- Request 11: "Over a lent list of levels, answer: no levels; silent at all of them; steady, with its level; or moving, with lowest and
-- highest". Here in whole levels.
use Rattle.std.specs.Prelude.{ℕ, ◌≡◌, List, [], ◌∷◌}
use Rattle.arith.specs.Pick.{pick}
use Rattle.meter.specs.declared.Metering.{Metering}
use Rattle.meter.specs.declared.Metering.TheVariants.{Refused, NoLevels, Silent, Steady, Moving}
use Rattle.meter.specs.Levels.{all_are, any_above, lowest, highest}

-- document 01's number for each answer, 0 where it is done
abbrev pub number_in : {L : Type 0} → Metering L → ℕ
number_in (Refused k) = k
number_in NoLevels = 0
number_in Silent = 0
number_in (Steady v) = 0
number_in (Moving a b) = 0

-- and its values: no level, its level, or the lowest and the highest
abbrev pub values_in : {L : Type 0} → Metering L → List L
values_in (Refused k) = []
values_in NoLevels = []
values_in Silent = []
values_in (Steady v) = v ∷ []
values_in (Moving a b) = a ∷ b ∷ []

-- of an answer in whole levels
abbrev pub measured_number : Metering ℕ → ℕ
measured_number m = number_in m

abbrev pub measured_levels : Metering ℕ → List ℕ
measured_levels m = values_in m

-- "Refusals: 29 for a level above 32,767."
unfoldable pub meter_number : List ℕ → ℕ
meter_number l = pick (any_above l) 29 0

-- "steady, with its level; or moving, with lowest and highest"
unfoldable pub meter_levels : List ℕ → List ℕ
meter_levels [] = []
meter_levels (x ∷ l) =
    pick (any_above (x ∷ l)) []
    (pick (all_are 0 (x ∷ l)) [] (pick (all_are x l) (x ∷ []) (lowest x l ∷ highest x l ∷ [])))

-- an answer has the number and the values of its list
abbrev pub MeasuredIs : List ℕ → Metering ℕ → Type 0
MeasuredIs l r = (measured_number r ≡ meter_number l) × (measured_levels r ≡ meter_levels l)

-- "Silent means all are 0, steady all equal and not 0, moving anything else"
unfoldable pub measure_of : List ℕ → Metering ℕ
measure_of [] = NoLevels
measure_of (x ∷ l) =
    pick (any_above (x ∷ l)) (Refused 29)
    (pick (all_are 0 (x ∷ l)) Silent (pick (all_are x l) (Steady x) (Moving (lowest x l) (highest x l))))
