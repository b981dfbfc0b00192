use borrow.Author.Tests.{eq-eqb, ne_eqb}
use Rattle.recording_cursor.specs.Stepping.{file_step}
use Rattle.recording_cursor.proofs.file_step.Goals as goal

pub returns-then-c-eq0 : goal.returns-then-c-eq0
unfolding file_step
returns-then-c-eq0 c = rw (eq-eqb _ _ c.if-c-eq0.true) c.head_step.ensures

pub returns : goal.returns
unfolding file_step
returns c =
    rw (ne_eqb _ _ c.if-c-eq0.false, ← c.is_pal-pal.ensures, c.moved.ensures, c.step-t.ensures.value)
