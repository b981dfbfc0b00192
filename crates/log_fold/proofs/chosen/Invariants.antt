-- The loop's invariant: no p before this one suits (`Choosing`), and the marks hold. Assumes nothing.
use Rattle.log_fold.specs.Moves.{Marked}
use Rattle.log_fold.proofs.MoveLaws.{Choosing}
use Rattle.log_fold.proofs.chosen.Given as goal

abbrev pub invariant-loop-p : goal.invariant-loop-p
invariant-loop-p l = Choosing l.log l.at l.k l.next l.e l.p × Marked l.log l.at l.marks
