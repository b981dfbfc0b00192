-- What `perch import` says of a clock that no machine has.
use Rattle.std.specs.Prelude.{ℕ, List, ◌++◌}
use Rattle.text.specs.Ascii.{bytes}
use Rattle.text.specs.Decimal.{decimal_text}

-- "Another clock is said on standard error and played as NTSC"
unfoldable pub clock_text : ℕ → List ℕ
clock_text n = bytes "perch: the NES clock at $84 is " ++ (decimal_text n ++ bytes ": taken as NTSC\n")
