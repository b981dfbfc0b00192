-- What `perch sheet` writes.
use Rattle.std.specs.Prelude.{ℕ, List, [], ◌∷◌, ◌++◌, eqb}
use Rattle.arith.specs.Pick.{pick}
use Rattle.text.specs.Ascii.{bytes}
use Rattle.text.specs.Decimal.{decimal_text}
use Rattle.text.specs.Hex.{hex_text}
use Rattle.text_lines.specs.Lines.{keyed_line}
use Rattle.chip_dmc_reader.specs.Reader.{next_address}
use Rattle.chip_sheet.specs.Sheet.{sheet_levels, sheet_number}

-- "the address in hex and the level": `c000:12`
unfoldable pub level_line : ℕ → ℕ → List ℕ
level_line address level = hex_text 4 address ++ (bytes ":" ++ (decimal_text level ++ bytes "\n"))

-- a line for each level, the first at an address
unfoldable pub level_lines : ℕ → List ℕ → List ℕ
level_lines address [] = []
level_lines address (level ∷ rest) = level_line address level ++ level_lines (next_address address) rest

-- the refusal, or 0, of a sheet in 4081 bytes: no right length needs more, so 23 is never given
abbrev pub sheet_refusal : List ℕ → ℕ → ℕ → ℕ → ℕ
sheet_refusal memory level address n = sheet_number memory level address n 4081

-- the levels' lines, or the refusal: a sheet has no place
unfoldable pub outcome_text : List ℕ → ℕ → ℕ → ℕ → List ℕ
outcome_text memory level address n =
    pick (eqb (sheet_refusal memory level address n) 0)
    (level_lines address (sheet_levels memory n address level))
    (keyed_line (bytes "refused=") (sheet_refusal memory level address n))

-- the whole text; each of its lines ends in one line feed
unfoldable pub sheet_text : List ℕ → ℕ → ℕ → ℕ → List ℕ
sheet_text memory level address n = bytes "sheet=1\n" ++ outcome_text memory level address n
