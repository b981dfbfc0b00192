-- The loop's invariant: the buffer keeps its length, and has room for the lines of a step; what was taken, what stands in it and what is still to be said are the
-- text. Assumes nothing.
use Prim.Native.Nat.{◌+◌, ◌≤◌}
use mathlib.Core.Path.{◌≡◌}
use lib.ListN.{length}
use Rattle.interrupts_stdout.proofs.StepLaws.{Held}
use Rattle.interrupts_stdout.proofs.pour.Given as goal

abbrev pub invariant-loop-left : goal.invariant-loop-left
invariant-loop-left l = (length l.out ≡ length l.initial.out) × (l.at + 96 ≤ length l.out) × Held l.log l.memory l.p l.left l.at l.out

abbrev pub decreases-loop-left : goal.decreases-loop-left
decreases-loop-left l = l.left
