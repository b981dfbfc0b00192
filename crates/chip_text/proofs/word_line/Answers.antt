use Rattle.text_lines.proofs.Pieces.{puts, puts_then}
use Rattle.chip_text.specs.Text.{field_line}
use Rattle.chip_text.proofs.word_line.Goals as goal

pub returns : goal.returns
unfolding field_line
returns c =
    puts_then _ _ (puts _ (c.fixed-a.ensures.value, c.fixed-a.ensures.out_after)) (rw c.into.ensures at (puts _ (c.keyed_line.ensures.value, c.keyed_line.ensures.out_after)))
