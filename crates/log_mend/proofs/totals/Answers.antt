use Rattle.std.proofs.Common.{sym, ◌∙◌}
use Rattle.log_mend.proofs.TotalLaws.{right_by_lem, totals_right, totals_wrong}
use Rattle.log_mend.proofs.totals.Goals as goal

pub returns-then-lines_right : goal.returns-then-lines_right
returns-then-lines_right c =
    let log = c.args.log.now in
    c.block_totals.ensures
    ∙ rw (c.read_block.ensures.value, c.start.ensures)
    (totals_right log (right_by_lem log c.check.result c.check.ensures ∙ (sym c.lines_right.ensures ∙ c.if-lines_right.true)))

pub returns-else-lines_right : goal.returns-else-lines_right
returns-else-lines_right c =
    let log = c.args.log.now in
    totals_wrong log (right_by_lem log c.check.result c.check.ensures ∙ (sym c.lines_right.ensures ∙ c.if-lines_right.false))
