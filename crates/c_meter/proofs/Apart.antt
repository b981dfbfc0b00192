-- The parts of an answer don't run into one another: each can be had again. Assumes nothing.
use Prim.Native.Nat.{ℕ, ◌/◌, ◌%◌, ◌^◌, ◌<◌}
use mathlib.Core.Path.{◌≡◌}
use mathlib.Core.List.{List}
use native.Mathlib.Omega.{arith}
use Rattle.meter.specs.declared.Metering.{Metering}
use Rattle.meter.specs.declared.Metering.TheVariants.{Refused, NoLevels, Silent, Steady, Moving}
use Rattle.meter.specs.Measure.{measured_number, measure_of}
use Rattle.meter.specs.Says.{Says}
use Rattle.meter.proofs.Answers.{says}
use Rattle.c_meter.specs.Packed.{case_of, lowest_of, highest_of, meter_packed}

pub record Apart (m : Metering ℕ) : Type 0 where
  pub number : meter_packed m % 2 ^ 8 ≡ measured_number m
  pub case : meter_packed m / 2 ^ 8 % 2 ^ 8 ≡ case_of m
  pub lowest : meter_packed m / 2 ^ 16 % 2 ^ 16 ≡ lowest_of m
  pub highest : meter_packed m / 2 ^ 32 ≡ highest_of m

parts : (m : Metering ℕ) → measured_number m < 2 ^ 8 → case_of m < 2 ^ 8 → lowest_of m < 2 ^ 16 → Apart m
parts m a b c = record { number = omega arith; case = omega arith; lowest = omega arith; highest = omega arith }

small : (l : List ℕ) (m : Metering ℕ) → Says l m → Apart m
small l (Refused k) s = parts (Refused k) (omega (arith, s.0)) (omega arith) (omega arith)
small l NoLevels s = parts NoLevels (omega arith) (omega arith) (omega arith)
small l Silent s = parts Silent (omega arith) (omega arith) (omega arith)
small l (Steady v) s = parts (Steady v) (omega arith) (omega arith) (omega (arith, s.3))
small l (Moving a b) s = parts (Moving a b) (omega arith) (omega arith) (omega (arith, s.0, s.1))

-- THE PARTS OF THE METER OF ANY LEVELS
pub apart : (l : List ℕ) → Apart (measure_of l)
apart l = small l (measure_of l) (says l)
