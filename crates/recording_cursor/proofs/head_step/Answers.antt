use borrow.Author.Tests.{eq-eqb, ne_eqb}
use Rattle.recording_cursor.specs.Stepping.{head_step}
use Rattle.recording_cursor.proofs.head_step.Goals as goal

pub returns-then-first-eq0 : goal.returns-then-first-eq0
unfolding head_step
returns-then-first-eq0 c = rw (← c.start-first.ensures, eq-eqb _ _ c.if-first-eq0.true)

pub returns : goal.returns
unfolding head_step
returns c = rw (← c.start-first.ensures, ne_eqb _ _ c.if-first-eq0.false, c.moved-next.ensures)
