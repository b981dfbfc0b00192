use mathlib.Core.Path.{sym}
use borrow.Author.Tests.{lt-ltb, le-ltb}
use Rattle.play_step.specs.Steps.{room_for}
use Rattle.play_step.proofs.PortionLaws.{room_none}
use Rattle.play_step.proofs.room.Goals as goal

pub returns-then-size-at : goal.returns-then-size-at
returns-then-size-at c = let a = c.args in sym (room_none a.size a.at c.if-size-at.true)

pub returns-then-n-lt256 : goal.returns-then-n-lt256
unfolding room_for
returns-then-n-lt256 c = rw (lt-ltb _ _ c.if-n-lt256.true)

pub returns-else-n-lt256 : goal.returns-else-n-lt256
unfolding room_for
returns-else-n-lt256 c = rw (le-ltb _ _ c.if-n-lt256.false)
