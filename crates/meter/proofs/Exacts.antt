-- Every level that is handed out is its exact fraction of 32,768, and times 32,768 it is the level again. Assumes nothing.
use Prim.Native.Nat.{ℕ, ◌≤◌}
use mathlib.Core.List.{List}
use native.Mathlib.Omega.{arith}
use Rattle.chip_mixer.specs.Fraction.{fraction_of}
use Rattle.chip_mixer.proofs.FractionLaws.{over, again}
use Rattle.meter.specs.declared.Metering.{Metering}
use Rattle.meter.specs.declared.Metering.TheVariants.{Refused, NoLevels, Silent, Steady, Moving}
use Rattle.meter.specs.Measure.{measure_of, measured_levels}
use Rattle.meter.specs.Meter.{values_of, in_fractions}
use Rattle.meter.specs.Says.{Says, Exact, Exactly, MeterExact}
use Rattle.meter.proofs.Answers.{says}

one : (n : ℕ) → n ≤ 32767 → Exact (fraction_of n) n
unfolding fraction_of
one n h = record { value = over n (omega arith); back = again n (omega arith) }

each : (l : List ℕ) (r : Metering ℕ) → Says l r → Exactly (values_of (in_fractions r)) (measured_levels r)
each l (Refused k) s = tt
each l NoLevels s = tt
each l Silent s = tt
each l (Steady v) s = (one v s.3, tt)
each l (Moving a b) s = (one a (omega (arith, s.0, s.1)), (one b s.1, tt))

-- THE METER'S LEVELS ARE EXACT
pub exact : MeterExact
exact l = each l (measure_of l) (says l)
