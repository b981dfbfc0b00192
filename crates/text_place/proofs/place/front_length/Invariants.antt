-- The loop's invariant: k is how many of the first i bytes stand behind their last line feed; a turn is `front_none` or `front_more`. Assumes nothing.
use Prim.Native.Nat.{◌≤◌}
use mathlib.Core.Path.{◌≡◌}
use lib.ListN.{length, take}
use Rattle.text_place.specs.Place.{line_front}
use Rattle.text_place.proofs.place.front_length.Given as goal

abbrev pub invariant-loop-c : goal.invariant-loop-c
invariant-loop-c l = (l.c-index ≤ length l.s) × (l.k ≤ l.c-index) × (l.k ≡ length (line_front (take l.c-index l.s)))
