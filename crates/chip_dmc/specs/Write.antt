-- Document 01, "Register bits" and "Units": writes to the DMC's registers and its bit of $4015.
use Rattle.std.specs.Prelude.{ℕ, ◌%◌, Bool, false, eqb}
use Rattle.arith.specs.Pick.{pick, both}
use Rattle.arith.specs.Bit.{bit_set}
use Rattle.chip_dmc_reader.specs.Reader.{with_interrupt, switched}
use Rattle.chip_dmc.specs.declared.Dmc.{Dmc}

-- "$4010 interrupt enable 7, loop 6, index 3-0"; "$4010 with interrupt enable clear clears the flag."
unfoldable pub dmc_write0 : ℕ → Dmc → Dmc
dmc_write0 value d =
    record {
      registers =
          record {
            enable = bit_set value 7;
            looped = bit_set value 6;
            index = value % 16;
            start = d.registers.start;
            size = d.registers.size;
          };
      output = d.output;
      reader = with_interrupt d.reader (both (bit_set value 7) d.reader.interrupt);
    }

-- "$4011 sets the level from its low seven bits."
unfoldable pub dmc_write1 : ℕ → Dmc → Dmc
dmc_write1 value d =
    record {
      registers = d.registers;
      output =
          record {
            timer = d.output.timer;
            level = value % 128;
            shift = d.output.shift;
            bits = d.output.bits;
            silence = d.output.silence;
          };
      reader = d.reader;
    }

-- "$4012 address byte"
unfoldable pub dmc_write2 : ℕ → Dmc → Dmc
dmc_write2 value d =
    record {
      registers =
          record {
            enable = d.registers.enable;
            looped = d.registers.looped;
            index = d.registers.index;
            start = value;
            size = d.registers.size;
          };
      output = d.output;
      reader = d.reader;
    }

-- "$4013 length byte"
unfoldable pub dmc_write3 : ℕ → Dmc → Dmc
dmc_write3 value d =
    record {
      registers =
          record {
            enable = d.registers.enable;
            looped = d.registers.looped;
            index = d.registers.index;
            start = d.registers.start;
            size = value;
          };
      output = d.output;
      reader = d.reader;
    }

-- one of $4010..$4013, by its place from 0
unfoldable pub dmc_write : ℕ → ℕ → Dmc → Dmc
dmc_write place value d =
    pick (eqb place 0) (dmc_write0 value d)
    (pick (eqb place 1) (dmc_write1 value d)
    (pick (eqb place 2) (dmc_write2 value d) (dmc_write3 value d)))

-- $4015 "clears the DMC flag"
unfoldable pub dmc_enabled : Bool → Dmc → Dmc
dmc_enabled on d =
    record {
      registers = d.registers;
      output = d.output;
      reader = switched on d.registers (with_interrupt d.reader false);
    }
