-- How long the text is. Assumes nothing.
use Prim.Native.Nat.{ℕ, zero, suc, ◌*◌, ◌/◌, ◌≤◌}
use mathlib.Core.List.{List}
use native.Mathlib.Omega.{arith}
use lib.Dec.{eqb}
use lib.ListN.{length, length-append}
use borrow.Author.Tests.{eqb-true}
use Rattle.arith.proofs.PickLaws.{pick_each}
use Rattle.text_print.proofs.StoreLaws.{length_four}
use Rattle.text.specs.Ascii.{bytes}
use Rattle.text_lines.proofs.Sizes.{keyed_size}
use Rattle.play_text.proofs.TextLaws.{decimal_three}
use Rattle.chip_dmc_output.specs.Output.{level_moved}
use Rattle.chip_dmc_reader.specs.Reader.{byte_at, next_address}
use Rattle.chip_dmc_output.proofs.RangeLaws.{level_moved_most}
use Rattle.chip_sheet.specs.Byte.{low_steps, eight_steps}
use Rattle.chip_sheet.specs.Sheet.{sheet_levels}
use Rattle.chip_sheet.proofs.Refusals.{done}
use Rattle.perch_sheet.specs.Report.{level_line, level_lines, sheet_refusal, outcome_text, sheet_text}

-- a level stays at most 127
steps_most : (k byte level : ℕ) → level ≤ 127 → low_steps k byte level ≤ 127
unfolding low_steps
steps_most zero byte level h = h
steps_most (suc k) byte level h = steps_most k (byte / 2) (level_moved byte level) (level_moved_most byte level h)

line_size : (address level : ℕ) → level ≤ 127 → length (level_line address level) ≤ 9
unfolding level_line
line_size address level h = simp length-append (omega (arith, length_four address, decimal_three level (omega arith)))

-- nine bytes hold a line
lines_size : (memory : List ℕ) (n at address level : ℕ) → level ≤ 127 → length (level_lines at (sheet_levels memory n address level)) ≤ 9 * n
unfolding sheet_levels level_lines
lines_size memory zero at address level h = omega arith
lines_size memory (suc n) at address level h =
    let l = eight_steps (byte_at memory address) level in
    let m = steps_most 8 (byte_at memory address) level h in
    rw length-append (omega (arith, line_size at l m, lines_size memory n (next_address at) (next_address address) l m))

outcome_size : (memory : List ℕ) (level address n : ℕ) → length (outcome_text memory level address n) ≤ 36729
unfolding outcome_text
outcome_size memory level address n =
    pick_each (λ (t : List ℕ). length t ≤ 36729) (eqb (sheet_refusal memory level address n) 0)
    (λ e.
    let d = done memory level address n 4081 (eqb-true _ _ e) in
    omega (arith, d.length_most, lines_size memory n address address level d.level_most))
    (λ e. omega (arith, keyed_size (bytes "refused=") (sheet_refusal memory level address n)))

-- 40,000 bytes hold the text about any bytes and numbers
pub sheet_size : (memory : List ℕ) (level address n : ℕ) → length (sheet_text memory level address n) ≤ 40000
unfolding sheet_text
sheet_size memory level address n = rw length-append (omega (arith, outcome_size memory level address n))
