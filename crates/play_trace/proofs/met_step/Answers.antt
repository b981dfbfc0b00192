use Rattle.play_trace.specs.Stepping.{met_step, place_time}
use Rattle.play_trace.proofs.met_step.Goals as goal

pub returns-in-Moved : goal.returns-in-Moved
unfolding met_step
returns-in-Moved c = rw (c.passed_at.ensures, c.in-Moved.is)

pub returns-in-Access : goal.returns-in-Access
unfolding met_step
returns-in-Access c = rw (c.access_met.ensures, c.in-Access.is)

pub returns-in-Wait : goal.returns-in-Wait
unfolding met_step
returns-in-Wait c = rw (c.passed_at-in-Wait.ensures, c.in-Wait.is)

pub returns-in-End : goal.returns-in-End
unfolding met_step place_time
returns-in-End c = rw (c.passed_at-in-End.ensures, c.shown_time.ensures, c.in-End.is)

pub returns-in-Refused : goal.returns-in-Refused
unfolding met_step
returns-in-Refused c = rw (c.passed_at-in-Refused.ensures, c.in-Refused.is)
