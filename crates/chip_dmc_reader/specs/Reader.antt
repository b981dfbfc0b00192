-- Document 01, "Units", DMC: the reader, from the address to the interrupt flag, and what the registers hold for it.
use Rattle.std.specs.Prelude.{ℕ, ◌+◌, ◌-◌, ◌*◌, ◌%◌, Bool, true, not, List, get_or, leb, ltb, eqb}
use Rattle.arith.specs.Pick.{pick, both}
use Rattle.chip_dmc_reader.specs.declared.Registers.{Registers}
use Rattle.chip_dmc_reader.specs.declared.Reader.{Reader}

-- where the buffer's byte is taken, "its full flag .. clear[s]"; else it stays
unfoldable pub emptied : Bool → Reader → Reader
emptied taken r =
    record {
      address = r.address;
      remaining = r.remaining;
      buffer = r.buffer;
      full = both (not taken) r.full;
      interrupt = r.interrupt;
    }

-- "address up by one, after $FFFF comes $8000"
unfoldable pub next_address : ℕ → ℕ
next_address a = pick (ltb a 0xFFFF) (a + 1) 0x8000

-- "Restart: address byte x 64 + $C000, length byte x 16 + 1."
unfoldable pub restarted : Registers → Reader → Reader
restarted s r =
    record {
      address = s.start * 64 + 0xC000;
      remaining = s.size * 16 + 1;
      buffer = r.buffer;
      full = r.full;
      interrupt = r.interrupt;
    }

-- "interrupt enable sets the flag"
unfoldable pub flagged : Bool → Reader → Reader
flagged enable r =
    record {
      address = r.address;
      remaining = r.remaining;
      buffer = r.buffer;
      full = r.full;
      interrupt = pick enable true r.interrupt;
    }

-- the byte of sample memory at an address: the first of its 32,768 bytes is that at $8000
unfoldable pub byte_at : List ℕ → ℕ → ℕ
byte_at memory a = get_or memory (a % 32768) 0

-- "fetches one byte, address up by one, .. remaining falls"
unfoldable pub fetched : List ℕ → Reader → Reader
fetched memory r =
    record {
      address = next_address r.address;
      remaining = r.remaining - 1;
      buffer = byte_at memory r.address;
      full = true;
      interrupt = r.interrupt;
    }

-- "at 0, loop restarts, else interrupt enable sets the flag"
unfoldable pub sample_ended : Registers → Reader → Reader
sample_ended s r = pick (eqb r.remaining 0) (pick s.looped (restarted s r) (flagged s.enable r)) r

-- "Reader: buffer empty and remaining above 0"
unfoldable pub pending : Reader → Bool
pending r = both (not r.full) (ltb 0 r.remaining)

unfoldable pub reader_clock : List ℕ → Registers → Reader → Reader
reader_clock memory s r = pick (pending r) (sample_ended s (fetched memory r)) r

abbrev pub with_interrupt : Reader → Bool → Reader
with_interrupt r flag =
    record { address = r.address; remaining = r.remaining; buffer = r.buffer; full = r.full; interrupt = flag }

abbrev pub with_remaining : Reader → ℕ → Reader
with_remaining r left =
    record { address = r.address; remaining = left; buffer = r.buffer; full = r.full; interrupt = r.interrupt }

-- "bit 4 set restarts if remaining is 0, clear sets remaining 0"
unfoldable pub switched : Bool → Registers → Reader → Reader
switched on s r = pick on (pick (eqb r.remaining 0) (restarted s r) r) (with_remaining r 0)

-- "index 0..15, .. address byte, length byte" (bytes are bytes by their type too)
unfoldable pub registers_in : Registers → Bool
registers_in s = both (leb s.index 15) (both (leb s.start 255) (leb s.size 255))

-- "address 32768..65535, remaining 0..4081, buffer"
unfoldable pub reader_in : Reader → Bool
reader_in r =
    both (both (leb 32768 r.address) (leb r.address 65535)) (both (leb r.remaining 4081) (leb r.buffer 255))
