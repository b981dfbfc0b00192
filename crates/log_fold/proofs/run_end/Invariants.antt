-- The loop's invariant: the run from the place ends where the run from x does. Assumes nothing.
use mathlib.Core.Path.{◌≡◌}
use Rattle.log_fold.specs.Moves.{run_end}
use Rattle.log_fold.proofs.run_end.Given as goal

abbrev pub invariant-loop-x : goal.invariant-loop-x
invariant-loop-x l = run_end l.log l.at l.m ≡ run_end l.log l.x l.m
