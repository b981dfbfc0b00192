-- The loop's invariant: the command from here on is the command; no further than the file, or where it begins.
use mathlib.Core.Path.{◌≡◌}
use Prim.Native.Nat.{◌≤◌, max}
use lib.ListN.{length, drop}
use Rattle.vgm_cursor.specs.Walking.{command_from, command_at}
use Rattle.vgm_cursor.proofs.command_at.Given as goal

abbrev pub invariant-loop-i : goal.invariant-loop-i
invariant-loop-i l = (l.i ≤ max l.at (length l.file)) × (command_from l.w l.i (drop l.i l.file) ≡ command_at l.file l.at)
