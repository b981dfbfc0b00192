use Prim.Native.Nat.{◌-◌, ◌≤◌}
use mathlib.Core.Path.{◌≡◌}
use lib.ListN.{length}
use lib.Seq.{sets}
use Rattle.chip_sheet.specs.Sheet.{sheet_levels}
use Rattle.chip_sheet.proofs.draw.Given as goal

-- what is left to be stored makes the whole
abbrev pub invariant-loop-i : goal.invariant-loop-i
invariant-loop-i l =
    (l.i ≤ l.n) × (length l.buffer ≡ length l.initial.buffer) × (sets l.buffer l.i (sheet_levels l.memory (l.n - l.i) l.a l.l) ≡ sets l.initial.buffer 0 (sheet_levels l.memory l.n l.address l.level))
