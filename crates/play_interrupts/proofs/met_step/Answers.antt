use Rattle.play_interrupts.specs.Stepping.{met_step}
use Rattle.play_interrupts.proofs.met_step.Goals as goal

pub returns-in-Moved : goal.returns-in-Moved
unfolding met_step
returns-in-Moved c = rw (c.passed_of.ensures, c.place_of.ensures, c.in-Moved.is)

pub returns-in-Access : goal.returns-in-Access
unfolding met_step
returns-in-Access c =
    rw (c.passed_of-in-Access.ensures, c.place_of-in-Access.ensures, c.change_next.ensures, c.in-Access.is)

pub returns-in-Wait : goal.returns-in-Wait
unfolding met_step
returns-in-Wait c = rw (c.passed_of-in-Wait.ensures, c.place_of-in-Wait.ensures, c.in-Wait.is)

pub returns-in-End : goal.returns-in-End
unfolding met_step
returns-in-End c = rw (c.passed_of-in-End.ensures, c.place_of-in-End.ensures, c.in-End.is)

pub returns-in-Refused : goal.returns-in-Refused
unfolding met_step
returns-in-Refused c = rw (c.passed_of-in-Refused.ensures, c.place_of-in-Refused.ensures, c.in-Refused.is)
