use native.Mathlib.Omega.{arith}
use Rattle.perch_vcd.specs.Text.{event_text}
use Rattle.perch_vcd.proofs.event_lines.Goals as goal

pub returns-in-Begins : goal.returns-in-Begins
unfolding event_text
returns-in-Begins c = rw c.in-Begins.is c.begin_lines.ensures

pub returns-in-Clocked : goal.returns-in-Clocked
unfolding event_text
returns-in-Clocked c = rw c.in-Clocked.is c.clocked_lines.ensures

pub returns-in-Accessed : goal.returns-in-Accessed
unfolding event_text
returns-in-Accessed c = rw c.in-Accessed.is c.accessed_lines.ensures

pub shape_of-out-in-Begins : goal.shape_of-out-in-Begins
shape_of-out-in-Begins c = omega (arith, c.out-1.given)

pub shape_of-out-in-Clocked : goal.shape_of-out-in-Clocked
shape_of-out-in-Clocked c = omega (arith, c.out-in-Clocked-1.given)

pub shape_of-out-in-Accessed : goal.shape_of-out-in-Accessed
shape_of-out-in-Accessed c = omega (arith, c.out-in-Accessed-1.given)
