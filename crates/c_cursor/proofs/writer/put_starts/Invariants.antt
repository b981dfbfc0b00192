-- The loop's invariant: what is left to be stored makes the whole.
use Prim.Native.Nat.{◌+◌, ◌*◌, ◌≤◌}
use mathlib.Core.Path.{◌≡◌}
use lib.ListN.{length, drop}
use lib.Seq.{sets}
use Rattle.c_bytes.specs.Numbers.{wides_bytes}
use Rattle.c_cursor.proofs.writer.put_starts.Given as goal

abbrev pub invariant-loop-k : goal.invariant-loop-k
invariant-loop-k l =
    (l.k ≤ length l.starts) × (length l.b ≡ length l.initial.b) × (sets l.b (l.at + 8 * l.k) (wides_bytes 8 (drop l.k l.starts)) ≡ sets l.initial.b l.at (wides_bytes 8 l.starts))
