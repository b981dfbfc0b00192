use Rattle.text_lines.proofs.Pieces.{puts_then}
use Rattle.chip_text.specs.Text.{length_lines}
use Rattle.chip_text.proofs.length_lines.Goals as goal

pub returns : goal.returns
unfolding length_lines
returns c =
    puts_then _ _ c.byte_line-a.ensures c.flag_line.ensures
