use Rattle.vgm_cursor.specs.Walking.{step_of}
use Rattle.vgm_cursor.proofs.NumberLaws.{with_numbers}
use Rattle.vgm_cursor.proofs.step.Goals as goal

pub returns : goal.returns
unfolding step_of
returns c =
    let a = c.args in let pair = with_numbers c.command_step.result (step_of a.pal a.file.now a.c) (rw (← c.command_at.ensures) c.command_step.ensures) in record { value = pair.0; found_is = pair.1 }
