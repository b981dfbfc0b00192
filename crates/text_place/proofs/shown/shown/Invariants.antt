-- The loop's invariant: the bytes that are left to be shown make the whole, in place and in bytes; a turn is `spell_step`. Assumes nothing.
use Prim.Native.Nat.{◌+◌, ◌≤◌}
use mathlib.Core.Path.{◌≡◌}
use lib.ListN.{length, drop}
use lib.Seq.{sets}
use Rattle.text_place.specs.Shown.{shown}
use Rattle.text_place.proofs.shown.shown.Given as goal

abbrev pub invariant-loop-c : goal.invariant-loop-c
invariant-loop-c l =
    (l.c-index ≤ length l.s) × (length l.out ≡ length l.initial.out)
    × (l.place + length (shown (drop l.c-index l.s)) ≡ l.at + length (shown l.s))
    × (sets l.out l.place (shown (drop l.c-index l.s)) ≡ sets l.initial.out l.at (shown l.s))
