use mathlib.Core.Path.{refl, sym, ◌∙◌}
use native.Mathlib.Omega.{arith}
use Rattle.log_fold.proofs.MarkLaws.{run_same, run_other, run_over}
use Rattle.log_fold.proofs.run_end.Goals as goal

pub returns-then-log-x : goal.returns-then-log-x
returns-then-log-x c = let l = c.loop-x in sym (l.invariant ∙ run_other _ _ _ (omega arith) c.if-log-x.true)

pub loop-x-preserved : goal.loop-x-preserved
loop-x-preserved c = let l = c.loop-x in l.invariant ∙ run_same _ _ _ (omega arith) c.if-log-x.false

pub returns : goal.returns
returns c = let l = c.loop-x in sym (l.invariant ∙ (run_over _ _ _ (omega arith) ∙ omega arith))
