use Rattle.text_lines.proofs.Pieces.{puts, puts_then}
use Rattle.perch_check.specs.Report.{totals_text}
use Rattle.perch_check.proofs.totals_text.Goals as goal

pub returns : goal.returns
unfolding totals_text
returns c =
    puts_then _ _ (puts _ (c.keyed_line-a.ensures.value, c.keyed_line-a.ensures.out_after)) (puts _ (c.keyed_line.ensures.value, c.keyed_line.ensures.out_after))
