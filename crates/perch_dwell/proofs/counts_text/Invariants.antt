-- The loop's invariant: the lines that are left make the whole, in place and in bytes; a turn is `counts_step`. Assumes nothing.
use Prim.Native.Nat.{◌+◌, ◌-◌, ◌≤◌}
use mathlib.Core.Path.{◌≡◌}
use lib.ListN.{length, drop}
use lib.Seq.{sets}
use Rattle.perch_dwell.specs.Text.{counts_text}
use Rattle.perch_dwell.proofs.counts_text.Given as goal

abbrev pub invariant-loop-i : goal.invariant-loop-i
invariant-loop-i l =
    (l.i ≤ length l.counts) × (length l.out ≡ length l.initial.out)
    × (l.at + length (counts_text 0 l.counts) ≤ length l.initial.out
    → (l.place + length (counts_text l.i (drop l.i l.counts)) ≡ l.at + length (counts_text 0 l.counts))
    × (sets l.out l.place (counts_text l.i (drop l.i l.counts)) ≡ sets l.initial.out l.at (counts_text 0 l.counts)))

abbrev pub decreases-loop-i : goal.decreases-loop-i
decreases-loop-i l = length l.counts - l.i
