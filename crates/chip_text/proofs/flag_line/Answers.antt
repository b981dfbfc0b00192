use Rattle.arith.proofs.PickLaws.{flag_number}
use Rattle.chip_text.specs.Text.{flag_line}
use Rattle.chip_text.proofs.flag_line.Goals as goal

pub returns : goal.returns
unfolding flag_line
returns c = rw (c.into.ensures, flag_number c.args.flag) at c.byte_line.ensures
