use native.Mathlib.Omega.{arith}
use Rattle.arith.proofs.ShiftLaws.{shifted_out}
use Rattle.chip_sweep.proofs.shifted.Goals as goal

pub returns-else-places-lt16 : goal.returns-else-places-lt16
returns-else-places-lt16 c = shifted_out 16 c.args.period c.args.places (omega arith) c.if-places-lt16.false
