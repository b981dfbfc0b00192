-- Document 01, "State, ranges and power-on": the DMC.
use Rattle.std.specs.Prelude.{ℕ, Bool, true, false}
use Rattle.arith.specs.Pick.{both}
use Rattle.chip_dmc_output.specs.Output.{output_in}
use Rattle.chip_dmc_reader.specs.Reader.{registers_in, reader_in}
use Rattle.chip_dmc.specs.declared.Dmc.{Dmc}

unfoldable pub dmc_in : ℕ → Dmc → Bool
dmc_in top d = both (registers_in d.registers) (both (output_in top d.output) (reader_in d.reader))

-- request 9: "Power-on timers for noise and DMC are the machine's periods at index 0", here n; "address .. (49152), .. bits .. (8), silence (set)", the rest 0
-- and clear
abbrev pub dmc_on : ℕ → Dmc
dmc_on n =
    record {
      registers = record { enable = false; looped = false; index = 0; start = 0; size = 0 };
      output = record { timer = n; level = 0; shift = 0; bits = 8; silence = true };
      reader = record { address = 49152; remaining = 0; buffer = 0; full = false; interrupt = false };
    }
