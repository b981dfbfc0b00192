-- Helper: nobody has to believe this; a proof's invariant, for any part of any machine.
-- A part that lags behind its machine: it is brought up only when its output can change.
use Rattle.std.specs.Prelude.{◌≡◌, ℕ, ◌+◌, ◌<◌, ◌≤◌}
use Rattle.arith.specs.Iterate.{iterate}

-- A part that was `first` at clock 0, as it is held at clock `now`: brought up to clock `at`, its next possible change at clock `next`,
-- its output kept in `gives`. `still` is a number of clocks for which its output can't change.
pub record Follows {C : Type 0} (step : C → C) (out still : C → ℕ) (first : C) (now : ℕ) (c : C) (at next gives : ℕ) : Type 0 where
  pub reached : c ≡ iterate step at first
  pub begun : at ≤ now
  pub ahead : now < next
  pub due : next ≡ at + still c + 1
  pub given : gives ≡ out c
