-- Lines that programs and people read: a key with a number, or with two, and a line feed.
use Rattle.std.specs.Prelude.{ℕ, List, ◌++◌}
use Rattle.text.specs.Ascii.{bytes}
use Rattle.text.specs.Decimal.{decimal_text}

-- `KEYN`
unfoldable pub keyed_line : List ℕ → ℕ → List ℕ
keyed_line key n = key ++ (decimal_text n ++ bytes "\n")

-- `KEYA:B`
unfoldable pub pair_line : List ℕ → ℕ → ℕ → List ℕ
pair_line key a b = key ++ (decimal_text a ++ (bytes ":" ++ (decimal_text b ++ bytes "\n")))

-- `refused=NUMBER:PLACE`
abbrev pub refused_line : ℕ → ℕ → List ℕ
refused_line number place = pair_line (bytes "refused=") number place
