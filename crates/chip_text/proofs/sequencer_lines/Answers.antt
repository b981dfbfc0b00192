use Rattle.text_lines.proofs.Pieces.{puts_then}
use Rattle.chip_text.specs.Text.{sequencer_lines}
use Rattle.chip_text.proofs.sequencer_lines.Goals as goal

pub returns : goal.returns
unfolding sequencer_lines
returns c =
    puts_then _ _ c.timer_lines-a.ensures
    (puts_then _ _ c.flag_line-b.ensures c.byte_line.ensures)
