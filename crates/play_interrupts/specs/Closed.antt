-- Helper: nobody has to believe this; it mirrors the code. The clocks up to a change by the next of each flag.
use Rattle.std.specs.Prelude.{ℕ, min, List, eqb}
use Rattle.arith.specs.Pick.{pick}
use Rattle.chip.specs.declared.State.{State}
use Rattle.run_interrupt.specs.declared.Asked.TheVariants.{Line, Frame, Dmc}
use Rattle.run_interrupt.specs.declared.Rise.{Rise}
use Rattle.run_interrupt.specs.declared.Rise.TheVariants.{At, Never, Refused}
use Rattle.run_interrupt.specs.Next.{next_interrupt}

-- the clocks of an answer; all n where it holds now, which no clock changes, or where it isn't within n
unfoldable pub rise_or : Rise → ℕ → ℕ
rise_or (At k) n = pick (eqb k 0) n k
rise_or Never n = n
rise_or (Refused m) n = n

-- the next of the three, at most n
unfoldable pub least_rise : List ℕ → ℕ → State → ℕ
least_rise memory n s =
    min (min (rise_or (next_interrupt Frame memory s n) n) (rise_or (next_interrupt Dmc memory s n) n)) (rise_or (next_interrupt Line memory s n) n)
