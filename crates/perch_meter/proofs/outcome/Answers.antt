use Rattle.text_lines.proofs.Pieces.{puts}
use Rattle.perch_meter.proofs.Sizes.{out_all, out_refused}
use Rattle.perch_meter.proofs.outcome.Goals as goal

pub returns-then-a-eq0 : goal.returns-then-a-eq0
returns-then-a-eq0 c = rw (out_all c.args.a c.if-a-eq0.true) c.all_line.ensures

pub returns : goal.returns
returns c = rw (out_refused c.args.a c.if-a-eq0.false) (puts _ (c.refused_line.ensures.value, c.refused_line.ensures.out_after))
