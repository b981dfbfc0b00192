use Prim.Native.Nat.{◌+◌, ◌≤◌}
use mathlib.Core.Path.{◌≡◌}
use lib.ListN.{length, drop}
use Rattle.text_place.specs.Place.{line_rest}
use Rattle.text_place.proofs.place.rest_length.Given as goal

abbrev pub invariant-loop-i : goal.invariant-loop-i
invariant-loop-i l = (l.i ≤ length l.s) × (l.i + length (line_rest (drop l.i l.s)) ≡ length (line_rest l.s))
