-- The loop's invariant: what is left to read makes what is left to write (`Going`), and the marks hold. Assumes nothing.
use Prim.Native.Nat.{◌-◌}
use lib.ListN.{length}
use Rattle.log_fold.specs.Moves.{Marked}
use Rattle.log_fold.proofs.PassLaws.{Going}
use Rattle.log_fold.proofs.pass.Given as goal

abbrev pub invariant-loop-at : goal.invariant-loop-at
invariant-loop-at l = Going l.log l.initial.out l.out l.at l.to l.k × Marked l.log l.at l.marks

abbrev pub decreases-loop-at : goal.decreases-loop-at
decreases-loop-at l = length l.log - l.at
