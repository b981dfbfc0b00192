use Rattle.text_lines.proofs.Pieces.{puts, puts_none}
use Rattle.perch_check.specs.Report.{machine_line}
use Rattle.perch_check.proofs.machine_line.Goals as goal

pub returns-then-pal : goal.returns-then-pal
unfolding machine_line
returns-then-pal c = rw c.if-pal.true (puts _ (c.fixed.ensures.value, c.fixed.ensures.out_after))

pub returns : goal.returns
unfolding machine_line
returns c = rw c.if-pal.false puts_none
