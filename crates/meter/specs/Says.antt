-- What the meter's answers say of a list of levels. Request 11: "the lowest and highest must occur in the list and bound it", "every level as the exact fraction of
-- 32,768". Proved in proofs/Answers and proofs/Exacts.
use Rattle.std.specs.Prelude.{ℕ, ◌≤◌, ◌<◌, ◌≡◌, false, List, [], ◌∷◌, pos, Float, length}
use Rattle.std.specs.Float.{binary32}
use Rattle.std.specs.Float.Ieee.{mul, of_int}
use Rattle.std.specs.Float.Ieee.Exact.{HasValue}
use Rattle.chip_mixer.specs.Fraction.{scale}
use Rattle.meter.specs.declared.Metering.{Metering}
use Rattle.meter.specs.declared.Metering.TheVariants.{Refused, NoLevels, Silent, Steady, Moving}
use Rattle.meter.specs.Measure.{measure_of, measured_levels}
use Rattle.meter.specs.Meter.{values_of, meter_of}

-- it holds of each
pub data All (P : ℕ → Type 0) : List ℕ → Type 0 where
  none : All P []
  and : {x : ℕ} {l : List ℕ} → P x → All P l → All P (x ∷ l)

-- it holds of one, or more
pub data Some (P : ℕ → Type 0) : List ℕ → Type 0 where
  here : {x : ℕ} {l : List ℕ} → P x → Some P (x ∷ l)
  later : {x : ℕ} {l : List ℕ} → Some P l → Some P (x ∷ l)

-- what an answer says of a list of levels
abbrev pub Says : List ℕ → Metering ℕ → Type 0
Says l (Refused k) = (k ≡ 29) × Some (λ y. 32767 < y) l
Says l NoLevels = l ≡ []
Says l Silent = (0 < length l) × All (λ y. y ≡ 0) l
Says l (Steady v) = (0 < length l) × All (λ y. y ≡ v) l × (0 < v) × (v ≤ 32767)
Says l (Moving a b) =
    (a < b) × (b ≤ 32767) × Some (λ y. y ≡ a) l × Some (λ y. y ≡ b) l × All (λ y. (a ≤ y) × (y ≤ b)) l

-- THE METER'S ANSWER SAYS WHAT IS SO, and no other answer does
abbrev pub MeterSays : Type 0
MeterSays = (l : List ℕ) → Says l (measure_of l)

abbrev pub MeterOnly : Type 0
MeterOnly = (l : List ℕ) (r : Metering ℕ) → Says l r → r ≡ measure_of l

-- a float is a level's exact fraction
pub record Exact (v : Float) (level : ℕ) : Type 0 where
  pub value : HasValue v false level 32768
  pub back : mul binary32 v scale ≡ of_int binary32 (pos level)

-- each of a list's floats is that of its level
abbrev pub Exactly : List Float → List ℕ → Type 0
Exactly [] [] = Unit {0}
Exactly [] (n ∷ l) = ⊥
Exactly (v ∷ vs) [] = ⊥
Exactly (v ∷ vs) (n ∷ l) = Exact v n × Exactly vs l

-- THE METER'S LEVELS ARE EXACT
abbrev pub MeterExact : Type 0
MeterExact = (l : List ℕ) → Exactly (values_of (meter_of l)) (measured_levels (measure_of l))
