-- the loop's invariant: the steps that are left, from where it stands, lead to the level after all eight
use Prim.Native.Nat.{◌-◌, ◌/◌, ◌^◌, ◌≤◌}
use mathlib.Core.Path.{◌≡◌}
use Rattle.chip_sheet.specs.Byte.{low_steps}
use Rattle.chip_sheet.proofs.stepped.Given as goal

abbrev pub invariant-loop-i : goal.invariant-loop-i
invariant-loop-i l = (l.i ≤ 8) × (low_steps (8 - l.i) (l.byte / 2 ^ l.i) l.l ≡ low_steps 8 l.byte l.level)
