use Rattle.play_trace.specs.Stepping.{begins_at}
use Rattle.play_trace.proofs.begins_at.Goals as goal

pub returns : goal.returns
unfolding begins_at
returns c = rw (c.passed_at.ensures, c.shown_at-point.ensures)
