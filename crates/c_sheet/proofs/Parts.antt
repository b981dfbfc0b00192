-- Number and count of levels can be had again from the one number. Assumes nothing.
use Prim.Native.Nat.{ℕ, ◌/◌, ◌%◌, ◌^◌}
use mathlib.Core.Path.{◌≡◌}
use mathlib.Core.List.{List}
use native.Mathlib.Omega.{arith}
use Rattle.chip_sheet.specs.Sheet.{sheet_answer}
use Rattle.chip_sheet.proofs.Refusals.{answer_most}
use Rattle.c_sheet.specs.Packed.{sheet_packed}

-- THE PARTS OF AN ANSWER
pub apart : (memory : List ℕ) (level address n : ℕ) (buffer : List ℕ)
    → (sheet_packed memory level address n buffer % 2 ^ 8 ≡ (sheet_answer memory level address n buffer).number)
    × (sheet_packed memory level address n buffer / 2 ^ 8 ≡ (sheet_answer memory level address n buffer).length)
unfolding sheet_packed
apart memory level address n buffer = let h = answer_most memory level address n buffer in (omega arith, omega arith)
