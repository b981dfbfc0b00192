-- The header of a VGM file: where its commands begin, and its machine.
use Rattle.std.specs.Prelude.{ℕ, ◌+◌, ◌*◌, ◌/◌, ◌%◌, ◌^◌, List, Bool, not, eqb, ltb, leb, length, get_or, Result, Ok, Err}
use Rattle.arith.specs.Pick.{pick, both, either}
use Rattle.text.specs.Ascii.{bytes}
use Rattle.vgm_file.specs.declared.NoPart.{NoPart}
use Rattle.vgm_file.specs.declared.NoPart.TheVariants as no

-- the four bytes at a place, low first; a byte past the end is 0
unfoldable pub word : List ℕ → ℕ → ℕ
word file at = get_or file at 0 + 2 ^ 8 * get_or file (at + 1) 0 + 2 ^ 16 * get_or file (at + 2) 0 + 2 ^ 24 * get_or file (at + 3) 0

-- "the data offset at $34, version below 1.50 at $40": the version is at $08, 1.50 is $150, and the offset counts from $34 on. An offset of 0, as some
-- files of 1.50 have it, means $40 too
unfoldable pub data_start : List ℕ → ℕ
data_start file = pick (either (ltb (word file 0x08) 0x150) (eqb (word file 0x34) 0)) 0x40 (0x34 + word file 0x34)

-- "The NES clock at $84 of the header (versions 1.61 and later)"; a header whose commands begin before its end has none, and that is 0
unfoldable pub clock_word : List ℕ → ℕ
clock_word file = pick (both (leb 0x161 (word file 0x08)) (leb 0x88 (data_start file))) (word file 0x84) 0

-- the clocks a second: the two bits above are flags
unfoldable pub clock_in : List ℕ → ℕ
clock_in file = clock_word file % 2 ^ 30

-- "The dual-chip bit (bit 30)"
unfoldable pub is_dual : List ℕ → Bool
is_dual file = eqb (clock_word file / 2 ^ 30 % 2) 1

-- "1,662,607 is PAL"
unfoldable pub is_pal_file : List ℕ → Bool
is_pal_file file = eqb (clock_in file) 1662607

-- "1,789,772 or 1,789,773 (or 0, or none) is NTSC", and of any other clock it "is said on standard error and played as NTSC"
unfoldable pub is_known : List ℕ → Bool
is_known file = either (is_pal_file file) (either (eqb (clock_in file) 0) (either (eqb (clock_in file) 1789772) (eqb (clock_in file) 1789773)))

-- a file begins with "Vgm "; its header is $40 bytes at least; the commands begin behind the offset and not behind the file's end; two chips are none of ours
unfoldable pub commands_at : List ℕ → Result ℕ NoPart
commands_at file =
    pick (not (eqb (word file 0) (word (bytes "Vgm ") 0))) (Err no.NoVgm)
    (pick (ltb (length file) 0x40) (Err no.Cut)
    (pick (both (leb 0x38 (data_start file)) (leb (data_start file) (length file)))
    (pick (is_dual file) (Err no.Dual) (Ok (data_start file)))
    (Err no.Outside)))
