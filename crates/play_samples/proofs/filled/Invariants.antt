-- The loop's invariant: where the level is held sample by sample. Assumes nothing.
use Rattle.play_samples.proofs.FillLaws.{Filling}
use Rattle.play_samples.proofs.filled.Given as goal

abbrev pub invariant-loop-pen : goal.invariant-loop-pen
invariant-loop-pen l = Filling l.c l.initial.out l.initial.pen l.v l.clocks l.out l.pen l.left

abbrev pub decreases-loop-pen : goal.decreases-loop-pen
decreases-loop-pen l = l.left
