use Rattle.text_lines.proofs.Pieces.{puts_then}
use Rattle.chip_text.specs.Text.{envelope_lines}
use Rattle.chip_text.proofs.envelope_lines.Goals as goal

pub returns : goal.returns
unfolding envelope_lines
returns c =
    puts_then _ _ c.flag_line-a.ensures
    (puts_then _ _ c.byte_line-b.ensures c.byte_line.ensures)
