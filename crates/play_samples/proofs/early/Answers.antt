use mathlib.Core.Path.{sym}
use native.Mathlib.Omega.{arith}
use borrow.Author.Tests.{lt-leb}
use Prim.Native.Nat.{◌+◌}
use Rattle.play_samples.proofs.early.Goals as goal

pub returns-then-time-gt2000000000 : goal.returns-then-time-gt2000000000
returns-then-time-gt2000000000 c = let a = c.args in sym (lt-leb (a.time + a.left) 2000000000 (omega (arith, c.if-time-gt2000000000.true)))

pub returns : goal.returns
returns c = rw c.from.ensures
