-- How long the line about a clock is. Assumes nothing.
use Prim.Native.Nat.{ℕ, ◌≤◌}
use native.Mathlib.Omega.{arith}
use lib.ListN.{length, length-append}
use Rattle.text_lines.proofs.Sizes.{decimal_ten}
use Rattle.perch_import.specs.Words.{clock_text}

pub clock_size : (n : ℕ) → length (clock_text n) ≤ 64
unfolding clock_text
clock_size n = simp length-append (omega (arith, decimal_ten n))
