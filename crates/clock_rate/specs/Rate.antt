-- How fast a machine's clock goes, and when a clock stands.
use Rattle.std.specs.Prelude.{ℕ, ◌*◌, ◌/◌, Bool}
use Rattle.arith.specs.Pick.{pick}

-- the clocks of a second: request 10's 1,789,773; on a PAL machine 1,662,607
unfoldable pub clock_rate : Bool → ℕ
clock_rate pal = pick pal 1662607 1789773

-- clock c stands at this many nanoseconds, rounded down
unfoldable pub clock_time : Bool → ℕ → ℕ
clock_time pal c = c * 1000000000 / clock_rate pal
