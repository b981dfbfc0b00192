use Rattle.text_lines.proofs.Pieces.{puts}
use Rattle.perch_at.specs.Text.{machine_line}
use Rattle.perch_at.proofs.machine_line.Goals as goal

pub returns-then-pal : goal.returns-then-pal
unfolding machine_line
returns-then-pal c = rw c.if-pal.true (puts _ (c.fixed.ensures.value, c.fixed.ensures.out_after))

pub returns : goal.returns
unfolding machine_line
returns c = rw c.if-pal.false (puts _ (c.fixed-2.ensures.value, c.fixed-2.ensures.out_after))
