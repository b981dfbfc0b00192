use Rattle.text_lines.proofs.Pieces.{puts_then}
use Rattle.chip_text.specs.Text.{square_lines}
use Rattle.chip_text.proofs.square_lines.Goals as goal

pub returns : goal.returns
unfolding square_lines
returns c =
    puts_then _ _ c.byte_line-a.ensures
    (puts_then _ _ c.volume_lines-b.ensures
    (puts_then _ _ c.sweep_lines-c.ensures
    (puts_then _ _ c.sequencer_lines-d.ensures
    (puts_then _ _ c.envelope_lines-e.ensures c.length_lines.ensures))))
