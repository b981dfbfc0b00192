use borrow.Author.Tests.{lt-ltb, le-ltb}
use Rattle.play_samples.specs.Pens.{pen_next}
use Rattle.play_samples.proofs.next_pen.Goals as goal

pub returns-then-part-c : goal.returns-then-part-c
unfolding pen_next
returns-then-part-c c = rw (lt-ltb _ _ c.if-part-c.true) c.fresh.ensures

pub returns-else-part-c : goal.returns-else-part-c
unfolding pen_next
returns-else-part-c c = rw (le-ltb _ _ c.if-part-c.false) c.fresh-else-part-c.ensures
