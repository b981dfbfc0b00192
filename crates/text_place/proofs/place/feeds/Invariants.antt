use Prim.Native.Nat.{◌+◌, ◌≤◌}
use mathlib.Core.Path.{◌≡◌}
use lib.ListN.{length, drop}
use Rattle.text_place.specs.Place.{feeds}
use Rattle.text_place.proofs.place.feeds.Given as goal

abbrev pub invariant-loop-c : goal.invariant-loop-c
invariant-loop-c l = (l.c-index ≤ length l.s) × (l.n ≤ l.c-index) × (l.n + feeds (drop l.c-index l.s) ≡ feeds l.s)
