use borrow.Author.Tests.{eq-eqb, ne_eqb}
use Rattle.vgm_cursor.specs.Walking.{command_step}
use Rattle.vgm_cursor.proofs.write_step.Goals as goal

pub returns-then-gap_at-eq0 : goal.returns-then-gap_at-eq0
unfolding command_step
returns-then-gap_at-eq0 c = rw (← c.gap_at.ensures, eq-eqb _ _ c.if-gap_at-eq0.true)

pub returns : goal.returns
unfolding command_step
returns c = rw (← c.gap_at.ensures, ne_eqb _ _ c.if-gap_at-eq0.false) c.wait_on.ensures
