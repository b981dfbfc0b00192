use Rattle.perch_vcd.specs.Text.{event_time}
use Rattle.perch_vcd.proofs.event_time.Goals as goal

pub returns-in-Begins : goal.returns-in-Begins
unfolding event_time
returns-in-Begins c = rw c.in-Begins.is

pub returns-in-Clocked : goal.returns-in-Clocked
unfolding event_time
returns-in-Clocked c = rw c.in-Clocked.is

pub returns-in-Accessed : goal.returns-in-Accessed
unfolding event_time
returns-in-Accessed c = rw c.in-Accessed.is
