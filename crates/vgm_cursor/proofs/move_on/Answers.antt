use borrow.Author.Tests.{le-leb, lt-leb}
use Rattle.vgm_cursor.specs.Walking.{move_on}
use Rattle.vgm_cursor.proofs.move_on.Goals as goal

pub returns-then-samples-le100000000 : goal.returns-then-samples-le100000000
unfolding move_on
returns-then-samples-le100000000 c = simp (le-leb _ _ c.if-samples-le100000000.true)

pub returns : goal.returns
unfolding move_on
returns c = simp (lt-leb _ _ c.if-samples-le100000000.false)
