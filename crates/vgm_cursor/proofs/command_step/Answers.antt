use Rattle.vgm_cursor.specs.Walking.{command_step}
use Rattle.vgm_cursor.proofs.command_step.Goals as goal

pub returns-in-Err : goal.returns-in-Err
unfolding command_step
returns-in-Err c = rw c.in-Err.is
