use Rattle.perch_vcd.specs.Text.{told_after}
use Rattle.perch_vcd.proofs.told_after.Goals as goal

pub returns-in-Over : goal.returns-in-Over
unfolding told_after
returns-in-Over c = rw c.in-Over.is

pub returns-in-Moved : goal.returns-in-Moved
unfolding told_after
returns-in-Moved c = rw c.in-Moved.is

pub returns-in-Shown : goal.returns-in-Shown
unfolding told_after
returns-in-Shown c = rw c.in-Shown.is c.event_time.ensures

pub returns-in-Refused : goal.returns-in-Refused
unfolding told_after
returns-in-Refused c = rw c.in-Refused.is
