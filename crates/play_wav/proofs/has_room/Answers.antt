use native.Mathlib.Omega.{arith}
use Prim.Native.Nat.{◌+◌}
use mathlib.Core.Path.{sym}
use borrow.Author.Tests.{lt-leb}
use Rattle.play_wav.proofs.LoopLaws.{room_is}
use Rattle.play_wav.proofs.has_room.Goals as goal

pub returns-then-size-at : goal.returns-then-size-at
returns-then-size-at c = sym (lt-leb (c.args.at + 2) c.args.size (omega (arith, c.if-size-at.true)))

pub returns : goal.returns
returns c = room_is c.args.at c.args.size c.if-size-at.false
