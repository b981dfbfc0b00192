-- Four lines one behind the other, joined by `puts_then`. Assumes nothing.
use Rattle.text_lines.proofs.Pieces.{puts, puts_then}
use Rattle.perch_check.specs.Report.{passed_text}
use Rattle.perch_check.proofs.passed.Goals as goal

pub returns : goal.returns
unfolding passed_text
returns c =
    puts_then _ _ c.machine_line-a.ensures
    (puts_then _ _ (puts _ (c.keyed_line-b.ensures.value, c.keyed_line-b.ensures.out_after)) (puts_then _ _ (puts _ (c.keyed_line-d.ensures.value, c.keyed_line-d.ensures.out_after)) (puts _ (c.keyed_line.ensures.value, c.keyed_line.ensures.out_after))))
