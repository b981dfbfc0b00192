use Rattle.text_lines.proofs.Pieces.{puts_then}
use Rattle.chip_text.specs.Text.{linear_lines}
use Rattle.chip_text.proofs.linear_lines.Goals as goal

pub returns : goal.returns
unfolding linear_lines
returns c =
    puts_then _ _ c.flag_line-a.ensures
    (puts_then _ _ c.byte_line-b.ensures
    (puts_then _ _ c.byte_line-c.ensures c.flag_line.ensures))
