use Rattle.log_cursor.specs.Stepping.{step_of, read_step}
use Rattle.log_cursor.proofs.NumberLaws.{with_numbers}
use Rattle.log_cursor.proofs.step.Goals as goal

pub returns-in_default : goal.returns-in_default
unfolding step_of read_step
returns-in_default c =
    let pair =
    with_numbers _ (step_of c.args.log.now c.args.c)
    (rw (c.refuse.ensures, c.number.ensures, c.place.ensures, ← c.open_loops-d.ensures.0, ← c.read_inside-line.ensures.value, c.in_default.is)) in
    record { value = pair.0; found_is = pair.1 }

pub returns : goal.returns
unfolding step_of read_step
returns c =
    let pair =
    with_numbers _ (step_of c.args.log.now c.args.c)
    (rw (← c.open_loops-d.ensures.0, ← c.read_inside-line.ensures.value, c.in-Ok.is, ← c.open_loops-d.ensures.0) c.follow.ensures) in
    record { value = pair.0; found_is = pair.1 }
