use Rattle.std.proofs.Common.{refl}
use Rattle.arith.proofs.TableLaws.{past_end}
use Rattle.leap_stretch.specs.Voices.{weight_table}
use Rattle.leap_stretch.proofs.weight_entry.Goals as goal

pub returns-in_default : goal.returns-in_default
returns-in_default c = past_end weight_table 32 c.args.p refl c.in_default.in_default-own.rest
