-- What C and Rust ask for by a number, and an answer as one number.
use Rattle.std.specs.Prelude.{ℕ, ◌+◌, ◌*◌, ◌^◌, eqb}
use Rattle.arith.specs.Pick.{pick}
use Rattle.run_interrupt.specs.declared.Asked.{Asked}
use Rattle.run_interrupt.specs.declared.Asked.TheVariants.{Line, Frame, Dmc}
use Rattle.run_interrupt.specs.declared.Rise.{Rise}
use Rattle.run_interrupt.specs.declared.Rise.TheVariants.{At, Never, Refused}
use Rattle.run_interrupt.specs.Next.{rise_number, rise_clocks}

-- what is asked for: 1 the frame's flag, 2 the DMC's, any other number the line
unfoldable pub asked_of : ℕ → Asked
asked_of which = pick (eqb which 1) Frame (pick (eqb which 2) Dmc Line)

-- 1 where there is such a clock
abbrev pub found_flag : Rise → ℕ
found_flag (At k) = 1
found_flag Never = 0
found_flag (Refused n) = 0

-- "number + 2^8 x found + 2^32 x clocks"
abbrev pub rise_packed : Rise → ℕ
rise_packed r = rise_number r + 2 ^ 8 * found_flag r + 2 ^ 32 * rise_clocks r
