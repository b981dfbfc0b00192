use Rattle.vgm_cursor.specs.Walking.{command_step}
use Rattle.vgm_cursor.proofs.said_step.Goals as goal

pub returns-in-Wait : goal.returns-in-Wait
unfolding command_step
returns-in-Wait c = rw c.in-Wait.is c.move_on.ensures

pub returns-in-Write : goal.returns-in-Write
returns-in-Write c = rw c.in-Write.is c.write_step.ensures
