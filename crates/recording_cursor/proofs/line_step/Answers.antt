use Rattle.recording_cursor.specs.Stepping.{line_step}
use Rattle.recording_cursor.proofs.line_step.Goals as goal

pub returns : goal.returns
unfolding line_step
returns c = rw c.step-t.ensures.value
