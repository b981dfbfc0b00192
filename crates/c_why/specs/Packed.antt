-- What C and Rust get of request 6: an answer as one number.
use Rattle.std.specs.Prelude.{ℕ, ◌+◌}
use Rattle.c_chip.specs.Boundary.{packed}
use Rattle.chip_why.specs.Value.{reason_number, reason_value}
use Rattle.chip_why.specs.declared.Reason.{Reason}
use Rattle.chip_why.specs.declared.Reason.TheVariants.{Refused, NotEnabled, LengthZero, PeriodLow, TargetHigh, StepLow, VolumeZero, Sounds}

-- the value as C has it: of what sounds 16 + its number, which tells it from the reasons
abbrev pub value_of : Reason → ℕ
value_of (Refused n) = reason_value (Refused n)
value_of NotEnabled = reason_value NotEnabled
value_of LengthZero = reason_value LengthZero
value_of PeriodLow = reason_value PeriodLow
value_of TargetHigh = reason_value TargetHigh
value_of StepLow = reason_value StepLow
value_of VolumeZero = reason_value VolumeZero
value_of (Sounds n) = 16 + reason_value (Sounds n)

-- "number + 256 x value", by the number and the value of each answer
abbrev pub why_packed : Reason → ℕ
why_packed r = packed (reason_number r) (value_of r)
