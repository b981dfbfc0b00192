use Rattle.text_lines.proofs.Pieces.{puts}
use Rattle.perch_why.proofs.Sizes.{out_reached, out_refused}
use Rattle.perch_why.proofs.outcome.Goals as goal

pub returns-then-t-eq0 : goal.returns-then-t-eq0
returns-then-t-eq0 c = rw (out_reached c.args.t c.if-t-eq0.true) c.reached_lines.ensures

pub returns : goal.returns
returns c = rw (out_refused c.args.t c.if-t-eq0.false) (puts _ (c.refused_line.ensures.value, c.refused_line.ensures.out_after))
