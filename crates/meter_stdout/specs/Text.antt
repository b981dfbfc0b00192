-- What `perch meter` writes to standard output.
use Rattle.std.specs.Prelude.{ℕ, Bool, List}
use Rattle.arith.specs.Pick.{pick}
use Rattle.perch_meter.specs.Text.{meter_text, meter_waits_text}

-- the meter of the whole log; with `waits` asked for, of each of its waits too
abbrev pub metered_text : Bool → List ℕ → List ℕ → List ℕ
metered_text each log memory = pick each (meter_waits_text log memory) (meter_text log memory)
