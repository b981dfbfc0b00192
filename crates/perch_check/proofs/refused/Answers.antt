-- Four lines one behind the other, joined by `puts_then`. Assumes nothing.
use Rattle.text_lines.proofs.Pieces.{puts, puts_then}
use Rattle.perch_check.specs.Report.{refused_text}
use Rattle.perch_check.proofs.refused.Goals as goal

pub returns : goal.returns
unfolding refused_text
returns c =
    puts_then _ _ (puts _ (c.refused_line-a.ensures.value, c.refused_line-a.ensures.out_after))
    (puts_then _ _ (rw (c.line_number.ensures, c.column.ensures) at c.reason_line-b.ensures)
    (puts_then _ _ (puts _ (c.shown_line-c.ensures.value, c.shown_line-c.ensures.out_after)) (puts _ (c.mark_line.ensures.value, c.mark_line.ensures.out_after))))
