-- The range of the reader and of its registers: the tests, the facts that they stand for, and that every operation keeps them. Assumes nothing.
use Prim.Native.Nat.{ℕ, ◌%◌, ◌≤◌}
use mathlib.Core.Path.{◌≡◌}
use mathlib.Core.Bool.{Bool, true}
use mathlib.Core.List.{List}
use native.Mathlib.Omega.{arith}
use lib.Dec.{ltb, eqb}
use lib.ListN.{get_or}
use borrow.Author.Tests.{leb-true, le-leb, ltb-true}
use Rattle.arith.proofs.PickLaws.{both_left, both_right, both_true, pick_both, pick_each}
use Rattle.chip_dmc_reader.specs.Reader.{emptied, next_address, restarted, flagged, byte_at, fetched, sample_ended, pending, reader_clock, with_interrupt, switched, registers_in, reader_in}
use Rattle.chip_dmc_reader.specs.declared.Registers.{Registers}
use Rattle.chip_dmc_reader.specs.declared.Reader.{Reader}

pub record RegistersRanged (s : Registers) : Type 0 where
  pub index : s.index ≤ 15
  pub start : s.start ≤ 255
  pub size : s.size ≤ 255

pub record ReaderRanged (r : Reader) : Type 0 where
  pub address_from : 32768 ≤ r.address
  pub address_to : r.address ≤ 65535
  pub remaining : r.remaining ≤ 4081
  pub buffer : r.buffer ≤ 255

-- THE TESTS AND THE FACTS
pub registers_in_lem : (s : Registers) → registers_in s ≡ true → RegistersRanged s
unfolding registers_in
registers_in_lem s e = search (both_left, both_right, leb-true)

pub reader_in_lem : (r : Reader) → reader_in r ≡ true → ReaderRanged r
unfolding reader_in
reader_in_lem r e = search (both_left, both_right, leb-true)

pub registers_back : (s : Registers) → RegistersRanged s → registers_in s ≡ true
unfolding registers_in
registers_back s r = search (both_true, le-leb)

pub reader_back : (s : Reader) → ReaderRanged s → reader_in s ≡ true
unfolding reader_in
reader_back s r = search (both_true, le-leb)

-- THE BUFFER USED UP, THE FLAG SET OR CLEARED
pub emptied_kept : (taken : Bool) (r : Reader) → ReaderRanged r → ReaderRanged (emptied taken r)
unfolding emptied
emptied_kept taken r h =
    record {
      address_from = h.address_from;
      address_to = h.address_to;
      remaining = h.remaining;
      buffer = h.buffer;
    }

-- setting the flag keeps the reader's
pub flag_kept : (r : Reader) (t : Bool) → ReaderRanged r → ReaderRanged (with_interrupt r t)
flag_kept r t h =
    record {
      address_from = h.address_from;
      address_to = h.address_to;
      remaining = h.remaining;
      buffer = h.buffer;
    }

-- A CLOCK KEEPS IT, with any memory of bytes
address_kept : (a : ℕ) → 32768 ≤ a → (32768 ≤ next_address a) × (next_address a ≤ 65535)
unfolding next_address
address_kept a h =
    pick_each (λ (x : ℕ). (32768 ≤ x) × (x ≤ 65535)) (ltb a 0xFFFF)
    (λ e. (omega arith, omega (arith, ltb-true a 0xFFFF e))) (λ e. (omega arith, omega arith))

restarted_kept : (s : Registers) (r : Reader) → RegistersRanged s → ReaderRanged r → ReaderRanged (restarted s r)
unfolding restarted
restarted_kept s r hs h =
    record {
      address_from = omega arith;
      address_to = omega (arith, hs.start);
      remaining = omega (arith, hs.size);
      buffer = h.buffer;
    }

flagged_kept : (t : Bool) (r : Reader) → ReaderRanged r → ReaderRanged (flagged t r)
unfolding flagged
flagged_kept t r h =
    record {
      address_from = h.address_from;
      address_to = h.address_to;
      remaining = h.remaining;
      buffer = h.buffer;
    }

module _ (memory : List ℕ) (bytes : (i : ℕ) → get_or memory i 0 ≤ 255) where
  fetched_kept : (r : Reader) → ReaderRanged r → ReaderRanged (fetched memory r)
  unfolding fetched byte_at
  fetched_kept r h =
      let a = address_kept r.address h.address_from in
      record {
        address_from = a.0;
        address_to = a.1;
        remaining = omega (arith, h.remaining);
        buffer = bytes (r.address % 32768);
      }

  pub reader_kept : (s : Registers) (r : Reader) → RegistersRanged s → ReaderRanged r
      → ReaderRanged (reader_clock memory s r)
  unfolding reader_clock sample_ended
  reader_kept s r hs h =
      let f = fetched_kept r h in
      pick_both ReaderRanged (pending r)
      (pick_both ReaderRanged (eqb (fetched memory r).remaining 0)
      (pick_both ReaderRanged s.looped (restarted_kept s (fetched memory r) hs f)
      (flagged_kept s.enable (fetched memory r) f))
      f)
      h

-- ITS BIT OF $4015 KEEPS IT
pub switched_kept : (on : Bool) (s : Registers) (r : Reader) → RegistersRanged s → ReaderRanged r
    → ReaderRanged (switched on s r)
unfolding switched
switched_kept on s r hs h =
    pick_both ReaderRanged on
    (pick_both ReaderRanged (eqb r.remaining 0) (restarted_kept s r hs h) h)
    (record {
      address_from = h.address_from;
      address_to = h.address_to;
      remaining = omega arith;
      buffer = h.buffer;
    })
