-- Helper: nobody has to believe this; where samples begin and end, without a walk over them (proofs/ClockLaws, proofs/NextLaws).
use Rattle.std.specs.Prelude.{ℕ, ◌+◌, ◌-◌, ◌*◌, ◌/◌, ◌%◌, Bool}
use Rattle.clock_rate.specs.Rate.{clock_rate}

-- the samples that are whole by a clock: those n with n * f / rate up to it
unfoldable pub whole_by : Bool → ℕ → ℕ → ℕ
whole_by pal rate clock = ((clock + 1) * rate - 1) / clock_rate pal

-- what is left over where sample n begins: n * f is so much above its clock's product with the rate
unfoldable pub over_before : Bool → ℕ → ℕ → ℕ
over_before pal rate n = n * clock_rate pal % rate
