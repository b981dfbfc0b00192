use borrow.Author.Tests.{ne_eqb}
use Rattle.c_cursor.specs.Cursors.{cursor_encoded}
use Rattle.c_cursor.proofs.start.Goals as goal

pub returns-else-cursor-eq-SIZE-clause-cursor_after : goal.returns-else-cursor-eq-SIZE-clause-cursor_after
unfolding cursor_encoded
returns-else-cursor-eq-SIZE-clause-cursor_after c = rw (ne_eqb _ _ c.if-cursor-eq-SIZE.false)
