-- The table's entries are document 01's A: one computed test over the table, and one law. Assumes nothing.
use Prim.Native.Nat.{ℕ, ◌≤◌}
use mathlib.Core.Path.{◌≡◌}
use mathlib.Core.Bool.{Bool}
use native.Mathlib.Omega.{arith}
use lib.Dec.{T, eqb, eqb→eq}
use lib.ListN.{get_or}
use Rattle.arith.specs.Table.{every}
use Rattle.arith.proofs.TableLaws.{at}
use Rattle.chip_mixer.specs.Mixer.{squares_level}
use Rattle.chip_mixer.specs.Table.{squares_table}

-- an entry is A of its place
abbrev right : ℕ → ℕ → Bool
right s a = eqb a (squares_level s)

test : T (every right 0 squares_table)
unfolding squares_level
test = tt

-- EVERY ENTRY IS A
pub entry_is : (s : ℕ) → s ≤ 30 → get_or squares_table s 0 ≡ squares_level s
entry_is s h = eqb→eq (get_or squares_table s 0) (squares_level s) (at right squares_table test s (omega arith))
