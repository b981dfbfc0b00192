-- Document 01: "When an answer is an enum, a definition states this paper's number and values for each enum case."
use Rattle.std.specs.Prelude.{ℕ, eqb}
use Rattle.arith.specs.Pick.{pick, either}
use Rattle.chip.specs.Range.{in_range}
use Rattle.chip.specs.declared.State.{State}
use Rattle.chip_why.specs.Why.{channel_why}
use Rattle.chip_why.specs.declared.Reason.{Reason}
use Rattle.chip_why.specs.declared.Reason.TheVariants.{Refused, NotEnabled, LengthZero, PeriodLow, TargetHigh, StepLow, VolumeZero, Sounds}

-- the number: a refusal's own, else 0, "done"
abbrev pub reason_number : Reason → ℕ
reason_number (Refused n) = n
reason_number NotEnabled = 0
reason_number LengthZero = 0
reason_number PeriodLow = 0
reason_number TargetHigh = 0
reason_number StepLow = 0
reason_number VolumeZero = 0
reason_number (Sounds n) = 0

-- the value: of a reason its place in the request's order, from 1; of what sounds the number that the channel gives; refused, 0
abbrev pub reason_value : Reason → ℕ
reason_value (Refused n) = 0
reason_value NotEnabled = 1
reason_value LengthZero = 2
reason_value PeriodLow = 3
reason_value TargetHigh = 4
reason_value StepLow = 5
reason_value VolumeZero = 6
reason_value (Sounds n) = n

-- "Refusals: 2, then 24 for any other channel."
unfoldable pub why_number : ℕ → State → ℕ
why_number channel s = pick (in_range s) (pick (either (eqb channel 0) (either (eqb channel 1) (eqb channel 3))) 0 24) 2

-- the value of the channel's answer; out of range, 0
unfoldable pub why_value : ℕ → State → ℕ
why_value channel s = pick (in_range s) (reason_value (channel_why channel s)) 0
