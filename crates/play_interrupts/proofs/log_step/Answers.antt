use mathlib.Core.Path.{refl, ◌∙◌}
use Rattle.play_interrupts.proofs.log_step.Goals as goal

pub returns : goal.returns
returns c = c.met_step.ensures ∙ rw c.step-w.ensures.value refl
