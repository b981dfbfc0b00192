use Rattle.text_lines.proofs.Pieces.{puts, puts_then}
use Rattle.perch_dwell.proofs.table.Goals as goal

pub returns : goal.returns
returns c = puts_then _ _ c.counts_text-a.ensures (puts _ (c.keyed_line.ensures.value, c.keyed_line.ensures.out_after))
