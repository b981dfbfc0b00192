-- The DMC's part in the leap: for how many clocks it surely only counts, the DMC g such clocks on, and at its next change.
-- That these are clocks of the DMC is proved beside them (proofs/LeapLaws).
use Rattle.std.specs.Prelude.{ℕ, ◌+◌, ◌-◌, ◌*◌, ◌/◌, ◌^◌, Bool, List}
use Rattle.arith.specs.Pick.{pick}
use Rattle.divider.specs.Divider.{outputs, count_after}
use Rattle.leap_still.specs.Forever.{forever}
use Rattle.chip_dmc.specs.Clock.{dmc_clock}
use Rattle.chip_dmc_output.specs.Output.{with_timer}
use Rattle.chip_dmc_reader.specs.Reader.{pending}
use Rattle.chip_dmc_output.specs.declared.Output.{Output}
use Rattle.chip_dmc.specs.declared.Dmc.{Dmc}

-- silent: with a full buffer up to the clock before the end of the eight bits, else for ever; sounding: up to the clock before the timer's
-- output
unfoldable pub output_still : ℕ → Bool → Output → ℕ
output_still n full o =
    pick o.silence (pick full (o.timer - 1 + (o.bits - 1) * n) forever) (o.timer - 1)

-- the clocks for which it only counts: none where a fetch is due
unfoldable pub dmc_still : ℕ → Dmc → ℕ
dmc_still n d = pick (pending d.reader) 0 (output_still n d.reader.full d.output)

abbrev pub with_output : Dmc → Output → Dmc
with_output d o = record { registers = d.registers; output = o; reader = d.reader }

-- the output unit with another timer count, shift byte and bits
abbrev pub with_tape : Output → ℕ → ℕ → ℕ → Output
with_tape o t byte bits = record { timer = t; level = o.level; shift = byte; bits = bits; silence = o.silence }

-- g clocks on: the eight bits are a divider too, driven by the timer's outputs
unfoldable pub output_advanced : ℕ → ℕ → Output → Output
output_advanced n g o =
    with_tape o (count_after n o.timer g) (o.shift / 2 ^ outputs n o.timer g)
    (count_after 8 o.bits (outputs n o.timer g))

unfoldable pub dmc_advanced : ℕ → ℕ → Dmc → Dmc
dmc_advanced n g d = with_output d (output_advanced n g d.output)

-- at the clock before the next change, with no division
unfoldable pub output_brink : Output → Output
output_brink o = pick o.silence (with_tape o 1 (o.shift / 2 ^ (o.bits - 1)) 1) (with_timer o 1)

unfoldable pub dmc_brink : Dmc → Dmc
dmc_brink d = pick (pending d.reader) d (with_output d (output_brink d.output))

-- at the next change
unfoldable pub dmc_turned : List ℕ → ℕ → Dmc → Dmc
dmc_turned memory n d = dmc_clock memory n (dmc_brink d)
