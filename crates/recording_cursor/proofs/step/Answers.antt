use Rattle.recording_cursor.specs.Stepping.{step_of}
use Rattle.recording_cursor.proofs.NumberLaws.{with_numbers}
use Rattle.recording_cursor.proofs.step.Goals as goal

pub returns-then-is_file : goal.returns-then-is_file
unfolding step_of
returns-then-is_file c =
    let a = c.args in let pair = with_numbers c.file_step.result (step_of a.b.now a.c)
    (rw (← c.is_file.ensures, c.if-is_file.true) c.file_step.ensures) in record { value = pair.0; found_is = pair.1 }

pub returns : goal.returns
unfolding step_of
returns c =
    let a = c.args in let pair = with_numbers c.line_step.result (step_of a.b.now a.c)
    (rw (← c.is_file.ensures, c.if-is_file.false) c.line_step.ensures) in record { value = pair.0; found_is = pair.1 }
