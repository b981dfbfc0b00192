use mathlib.Core.Path.{refl, ◌∙◌}
use Rattle.play_trace.proofs.far_step.Goals as goal

pub returns : goal.returns
returns c = c.approach.ensures ∙ rw c.step-w.ensures.value refl
