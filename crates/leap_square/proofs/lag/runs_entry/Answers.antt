use Rattle.std.proofs.Common.{refl}
use Rattle.arith.proofs.TableLaws.{past_end}
use Rattle.leap_square.specs.Packed.{runs_table}
use Rattle.leap_square.proofs.lag.runs_entry.Goals as goal

pub returns-in_default : goal.returns-in_default
returns-in_default c = past_end runs_table 64 c.args.place refl c.in_default.in_default-own.rest
