-- A timer with a period of its own: that of a square or the triangle.
use Rattle.std.specs.Prelude.{ℕ, ◌+◌, ◌*◌, ◌/◌, ◌%◌, Bool, leb}
use Rattle.arith.specs.Pick.{both}
use Rattle.divider.specs.Divider.{tick}
use Rattle.chip_timer.specs.declared.Timer.{Timer}

-- "Timer period+1" (a period is 0..2047; any other number is taken by its remainder)
abbrev pub timer_period : Timer → ℕ
timer_period t = t.period % 2048 + 1

unfoldable pub timer_clock : Timer → Timer
timer_clock t = record { period = t.period; count = tick (timer_period t) t.count }

-- "third the low 8 bits of the period" ("A new period leaves the present count.")
unfoldable pub period_low : ℕ → Timer → Timer
period_low value t = record { period = t.period / 256 * 256 + value; count = t.count }

-- "fourth .. period's high 3 bits 2-0"
unfoldable pub period_high : ℕ → Timer → Timer
period_high value t = record { period = value % 8 * 256 + t.period % 256; count = t.count }

-- "period 0..2047; timer 1..2048"
unfoldable pub timer_in : Timer → Bool
timer_in t = both (leb t.period 2047) (both (leb 1 t.count) (leb t.count 2048))

-- at power-on: "timer .. (1)"
abbrev pub timer_on : Timer
timer_on = record { period = 0; count = 1 }
