-- What C and Rust get of request 5.
use Rattle.std.specs.Prelude.{ℕ, List}
use Rattle.c_chip.specs.Boundary.{packed}
use Rattle.chip_sheet.specs.Sheet.{sheet_answer}

-- "number + 256 x value": the value is how many levels were written
unfoldable pub sheet_packed : List ℕ → ℕ → ℕ → ℕ → List ℕ → ℕ
sheet_packed memory level address n buffer =
    packed (sheet_answer memory level address n buffer).number (sheet_answer memory level address n buffer).length
