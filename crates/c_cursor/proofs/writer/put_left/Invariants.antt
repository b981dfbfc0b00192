-- The loop's invariant: what is left to be stored makes the whole.
use Prim.Native.Nat.{◌+◌, ◌≤◌}
use mathlib.Core.Path.{◌≡◌}
use lib.ListN.{length, drop}
use lib.Seq.{sets}
use Rattle.c_bytes.specs.Numbers.{wides_bytes}
use Rattle.c_cursor.proofs.writer.put_left.Given as goal

abbrev pub invariant-loop-k : goal.invariant-loop-k
invariant-loop-k l =
    (l.k ≤ length l.left) × (length l.b ≡ length l.initial.b) × (sets l.b (l.at + l.k) (wides_bytes 1 (drop l.k l.left)) ≡ sets l.initial.b l.at (wides_bytes 1 l.left))
