use mathlib.Core.Path.{refl}
use native.Mathlib.Omega.{arith}
use borrow.Author.Tests.{lt-ltb, le-ltb}
use Rattle.run.proofs.stuck.Goals as goal

pub returns-then-n-room : goal.returns-then-n-room
returns-then-n-room c = let a = c.args in rw (lt-ltb a.n a.room (omega (arith, c.if-n-room.true))) refl

pub returns : goal.returns
returns c =
    let a = c.args in rw (le-ltb a.n a.room (omega (arith, c.if-n-room.false)), c.level-after.ensures) refl
