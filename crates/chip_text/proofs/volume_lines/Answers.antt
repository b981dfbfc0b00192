use Rattle.text_lines.proofs.Pieces.{puts_then}
use Rattle.chip_text.specs.Text.{volume_lines}
use Rattle.chip_text.proofs.volume_lines.Goals as goal

pub returns : goal.returns
unfolding volume_lines
returns c =
    puts_then _ _ c.flag_line-a.ensures
    (puts_then _ _ c.flag_line-b.ensures c.byte_line.ensures)
