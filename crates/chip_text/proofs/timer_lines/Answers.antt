use Rattle.text_lines.proofs.Pieces.{puts_then}
use Rattle.chip_text.specs.Text.{timer_lines}
use Rattle.chip_text.proofs.timer_lines.Goals as goal

pub returns : goal.returns
unfolding timer_lines
returns c =
    puts_then _ _ c.word_line-a.ensures c.word_line.ensures
