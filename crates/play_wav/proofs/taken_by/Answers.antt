use native.Mathlib.Omega.{arith}
use Rattle.play_wav.specs.Loop.{taken_by}
use Rattle.play_wav.proofs.taken_by.Goals as goal

pub overflow_add-t : goal.overflow_add-t
overflow_add-t c =
    let small = rw c.in-Heard.is at c.requires in
    record { fits = omega (arith, small) }

pub returns-in-Over : goal.returns-in-Over
unfolding taken_by
returns-in-Over c = rw (c.taken_of.ensures, c.in-Over.is)

pub returns-in-Moved : goal.returns-in-Moved
unfolding taken_by
returns-in-Moved c = rw (c.taken_of-in-Moved.ensures, c.in-Moved.is)

pub returns-in-Heard : goal.returns-in-Heard
unfolding taken_by
returns-in-Heard c = rw (c.taken_of-in-Heard.ensures, c.in-Heard.is)

pub returns-in-Refused : goal.returns-in-Refused
unfolding taken_by
returns-in-Refused c = rw (c.taken_of-in-Refused.ensures, c.in-Refused.is)
