use Rattle.text_lines.proofs.Pieces.{puts}
use Rattle.perch_dwell.proofs.Sizes.{out_table, out_refused}
use Rattle.perch_dwell.proofs.outcome.Goals as goal

pub returns-then-a-eq0 : goal.returns-then-a-eq0
returns-then-a-eq0 c =
    rw (out_table c.args.a c.if-a-eq0.true) c.table.ensures

pub returns : goal.returns
returns c =
    rw (out_refused c.args.a c.if-a-eq0.false) (puts _ (c.refused_line.ensures.value, c.refused_line.ensures.out_after))
