-- The range test and the facts it stands for; power-on is in range, and every operation keeps it, whatever the largest period. Assumes nothing.
use Prim.Native.Nat.{ℕ, ◌≤◌}
use mathlib.Core.Path.{◌≡◌}
use mathlib.Core.Bool.{Bool, true, false}
use mathlib.Core.List.{List}
use native.Mathlib.Omega.{arith}
use lib.Dec.{eqb}
use lib.ListN.{get_or}
use Rattle.arith.proofs.PickLaws.{both_left, both_right, both_true, pick_both}
use Rattle.chip_dmc_output.specs.Output.{takes}
use Rattle.chip_dmc_output.proofs.RangeLaws.{OutputRanged, output_in_lem, output_back, output_kept}
use Rattle.chip_dmc_reader.specs.Reader.{with_interrupt}
use Rattle.chip_dmc_reader.proofs.RangeLaws.{RegistersRanged, registers_in_lem, registers_back, ReaderRanged, reader_in_lem, reader_back, emptied_kept, flag_kept, reader_kept, switched_kept}
use Rattle.chip_dmc.specs.Clock.{dmc_timed, dmc_read, dmc_clock}
use Rattle.chip_dmc.specs.Write.{dmc_write0, dmc_write1, dmc_write2, dmc_write3, dmc_write, dmc_enabled}
use Rattle.chip_dmc.specs.Range.{dmc_in, dmc_on}
use Rattle.chip_dmc.specs.declared.Dmc.{Dmc}

pub record DmcRanged (top : ℕ) (d : Dmc) : Type 0 where
  pub registers : RegistersRanged d.registers
  pub output : OutputRanged top d.output
  pub reader : ReaderRanged d.reader

-- THE TEST AND THE FACTS
pub dmc_in_lem : {top : ℕ} (d : Dmc) → dmc_in top d ≡ true → DmcRanged top d
unfolding dmc_in
dmc_in_lem d e = search (both_left, both_right, registers_in_lem, output_in_lem, reader_in_lem)

pub dmc_back : {top : ℕ} (d : Dmc) → DmcRanged top d → dmc_in top d ≡ true
unfolding dmc_in
dmc_back d r =
    both_true _ _ (registers_back _ r.registers)
    (both_true _ _ (output_back _ r.output) (reader_back _ r.reader))

-- POWER-ON IS IN RANGE
pub dmc_on_lem : {top : ℕ} (n : ℕ) → 1 ≤ n → n ≤ top → DmcRanged top (dmc_on n)
dmc_on_lem n from to =
    record {
      registers = record { index = omega arith; start = omega arith; size = omega arith };
      output =
          record {
            timer_from = from;
            timer_to = to;
            level = omega arith;
            shift = omega arith;
            bits_from = omega arith;
            bits_to = omega arith;
          };
      reader =
          record { address_from = omega arith; address_to = omega arith; remaining = omega arith; buffer = omega arith };
    }

-- THE TIMER KEEPS IT
module _ {top : ℕ} (n : ℕ) (from : 1 ≤ n) (to : n ≤ top) where
  pub dmc_timed_kept : (d : Dmc) → DmcRanged top d → DmcRanged top (dmc_timed n d)
  unfolding dmc_timed
  dmc_timed_kept d r =
      record {
        registers = r.registers;
        output = output_kept n from to d.reader.full d.reader.buffer d.output r.reader.buffer r.output;
        reader = emptied_kept (takes d.output) d.reader r.reader;
      }

-- THE READER KEEPS IT, with any memory of bytes
module _ (memory : List ℕ) (bytes : (i : ℕ) → get_or memory i 0 ≤ 255) where
  pub dmc_read_kept : {top : ℕ} (d : Dmc) → DmcRanged top d → DmcRanged top (dmc_read memory d)
  unfolding dmc_read
  dmc_read_kept d r =
      record {
        registers = r.registers;
        output = r.output;
        reader = reader_kept memory bytes d.registers d.reader r.registers r.reader;
      }

  -- ONE CLOCK KEEPS IT
  pub dmc_clock_kept : {top : ℕ} (n : ℕ) → 1 ≤ n → n ≤ top → (d : Dmc) → DmcRanged top d → DmcRanged top (dmc_clock memory n d)
  unfolding dmc_clock
  dmc_clock_kept n from to d r = dmc_read_kept (dmc_timed n d) (dmc_timed_kept n from to d r)

-- WRITES KEEP IT
write0_kept : {top : ℕ} (value : ℕ) (d : Dmc) → DmcRanged top d → DmcRanged top (dmc_write0 value d)
unfolding dmc_write0
write0_kept value d r =
    record {
      registers = record { index = omega arith; start = r.registers.start; size = r.registers.size };
      output = r.output;
      reader = flag_kept d.reader _ r.reader;
    }

write1_kept : {top : ℕ} (value : ℕ) (d : Dmc) → DmcRanged top d → DmcRanged top (dmc_write1 value d)
unfolding dmc_write1
write1_kept value d r =
    let o = r.output in
    record {
      registers = r.registers;
      output =
          record {
            timer_from = o.timer_from;
            timer_to = o.timer_to;
            level = omega arith;
            shift = o.shift;
            bits_from = o.bits_from;
            bits_to = o.bits_to;
          };
      reader = r.reader;
    }

write2_kept : {top : ℕ} (value : ℕ) (d : Dmc) → value ≤ 255 → DmcRanged top d → DmcRanged top (dmc_write2 value d)
unfolding dmc_write2
write2_kept value d h r =
    record {
      registers = record { index = r.registers.index; start = h; size = r.registers.size };
      output = r.output;
      reader = r.reader;
    }

write3_kept : {top : ℕ} (value : ℕ) (d : Dmc) → value ≤ 255 → DmcRanged top d → DmcRanged top (dmc_write3 value d)
unfolding dmc_write3
write3_kept value d h r =
    record {
      registers = record { index = r.registers.index; start = r.registers.start; size = h };
      output = r.output;
      reader = r.reader;
    }

pub dmc_write_kept : {top : ℕ} (place value : ℕ) (d : Dmc) → value ≤ 255 → DmcRanged top d → DmcRanged top (dmc_write place value d)
unfolding dmc_write
dmc_write_kept {top} place value d h r =
    pick_both (DmcRanged top) (eqb place 0) (write0_kept value d r)
    (pick_both (DmcRanged top) (eqb place 1) (write1_kept value d r)
    (pick_both (DmcRanged top) (eqb place 2) (write2_kept value d h r) (write3_kept value d h r)))

pub dmc_enabled_kept : {top : ℕ} (on : Bool) (d : Dmc) → DmcRanged top d → DmcRanged top (dmc_enabled on d)
unfolding dmc_enabled
dmc_enabled_kept on d r =
    record {
      registers = r.registers;
      output = r.output;
      reader =
          switched_kept on d.registers (with_interrupt d.reader false) r.registers
          (flag_kept d.reader false r.reader);
    }
