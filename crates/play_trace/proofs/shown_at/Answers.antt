use Rattle.play_trace.specs.Window.{shown_at}
use Rattle.play_trace.proofs.shown_at.Goals as goal

pub returns : goal.returns
unfolding shown_at
returns c = rw (c.point_of.ensures, c.seen_of-seen.ensures, c.shown_time-time.ensures)
