use Rattle.text_lines.proofs.Pieces.{puts_then}
use Rattle.chip_text.specs.Text.{frame_lines}
use Rattle.chip_text.proofs.frame_lines.Goals as goal

pub returns : goal.returns
unfolding frame_lines
returns c =
    puts_then _ _ c.flag_line-a.ensures
    (puts_then _ _ c.flag_line-b.ensures
    (puts_then _ _ c.word_line-c.ensures c.flag_line.ensures))
