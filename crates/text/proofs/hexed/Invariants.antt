-- The loop's invariant: the number so far fits its digits, and what is left behind it says what all of s says. Assumes nothing.
use Prim.Native.Nat.{◌≤◌, ◌<◌, ◌^◌}
use mathlib.Core.Path.{◌≡◌}
use lib.ListN.{length, drop}
use Rattle.text.specs.Hex.{hex_digits}
use Rattle.text.proofs.hexed.Given as goal

abbrev pub invariant-loop-c : goal.invariant-loop-c
invariant-loop-c l = (l.c-index ≤ length l.s) × (l.n < 16 ^ l.c-index) × (hex_digits 0 l.s ≡ hex_digits l.n (drop l.c-index l.s))
