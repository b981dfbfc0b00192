-- Helper: nobody has to believe this; it mirrors the code. The answer by the clocks up to the one that sets what is asked for.
use Rattle.std.specs.Prelude.{ℕ}
use Rattle.arith.specs.Pick.{pick}
use Rattle.chip.specs.declared.State.{State}
use Rattle.leap_line.specs.Until.{frame_flag_until, dmc_flag_until, line_until, within}
use Rattle.run_interrupt.specs.declared.Asked.{Asked}
use Rattle.run_interrupt.specs.declared.Asked.TheVariants.{Line, Frame, Dmc}
use Rattle.run_interrupt.specs.declared.Rise.{Rise}
use Rattle.run_interrupt.specs.declared.Rise.TheVariants.{At, Never}

-- the clocks up to the one that sets it, 0 being never
unfoldable pub until_of : Asked → State → ℕ
until_of Line s = line_until s
until_of Frame s = frame_flag_until s
until_of Dmc s = dmc_flag_until s

-- where it doesn't hold now: after u clocks, if that is within n
unfoldable pub rise_in : ℕ → ℕ → Rise
rise_in u n = pick (within u n) (At u) Never
