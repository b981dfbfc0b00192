-- Document 01, "Units", DMC: one clock, the timer's period being an argument.
use Rattle.std.specs.Prelude.{ℕ, List}
use Rattle.chip_dmc_output.specs.Output.{output_clock, takes}
use Rattle.chip_dmc_reader.specs.Reader.{emptied, reader_clock}
use Rattle.chip_dmc.specs.declared.Dmc.{Dmc}

-- "all timers with what they drive": the DMC's share
unfoldable pub dmc_timed : ℕ → Dmc → Dmc
dmc_timed n d =
    record {
      registers = d.registers;
      output = output_clock n d.reader.full d.reader.buffer d.output;
      reader = emptied (takes d.output) d.reader;
    }

-- "the DMC reader"
unfoldable pub dmc_read : List ℕ → Dmc → Dmc
dmc_read memory d =
    record { registers = d.registers; output = d.output; reader = reader_clock memory d.registers d.reader }

-- one clock of the DMC: its timer, then its reader
unfoldable pub dmc_clock : List ℕ → ℕ → Dmc → Dmc
dmc_clock memory n d = dmc_read memory (dmc_timed n d)

-- what the mixer takes
unfoldable pub dmc_output : Dmc → ℕ
dmc_output d = d.output.level
