-- The loop's invariant: the lines that are left make the whole, in place and in bytes; a turn is `lines_step`. Assumes nothing.
use Prim.Native.Nat.{◌+◌, ◌≤◌}
use mathlib.Core.Path.{◌≡◌}
use lib.ListN.{length, drop}
use lib.Seq.{sets}
use Rattle.perch_sheet.specs.Report.{level_lines}
use Rattle.perch_sheet.proofs.level_lines.Given as goal

abbrev pub invariant-loop-level : goal.invariant-loop-level
invariant-loop-level l =
    (l.level-index ≤ length l.levels) × (length l.out ≡ length l.initial.out)
    × (l.at + length (level_lines l.address l.levels) ≤ length l.initial.out
    → (l.place + length (level_lines l.a (drop l.level-index l.levels)) ≡ l.at + length (level_lines l.address l.levels))
    × (sets l.out l.place (level_lines l.a (drop l.level-index l.levels)) ≡ sets l.initial.out l.at (level_lines l.address l.levels)))
