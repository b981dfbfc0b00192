use Rattle.play_trace.specs.Window.{access_event}
use Rattle.play_trace.specs.Stepping.{met_step}
use Rattle.play_trace.proofs.access_met.Goals as goal

pub returns : goal.returns
unfolding met_step access_event
returns c =
    rw (c.passed_at.ensures, c.min-done.ensures, c.bus_of-bus.ensures, c.shown_at-point.ensures, c.seen_of-seen.ensures)
