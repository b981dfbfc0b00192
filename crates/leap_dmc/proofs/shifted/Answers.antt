use native.Mathlib.Omega.{arith}
use Rattle.arith.proofs.ShiftLaws.{shifted_out}
use Rattle.leap_dmc.proofs.shifted.Goals as goal

pub returns-else-places-lt8 : goal.returns-else-places-lt8
returns-else-places-lt8 c = shifted_out 8 c.args.byte c.args.places (omega arith) c.if-places-lt8.false
