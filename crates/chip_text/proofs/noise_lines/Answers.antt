use Rattle.text_lines.proofs.Pieces.{puts_then}
use Rattle.chip_text.specs.Text.{noise_lines}
use Rattle.chip_text.proofs.noise_lines.Goals as goal

pub returns : goal.returns
unfolding noise_lines
returns c =
    puts_then _ _ c.volume_lines-a.ensures
    (puts_then _ _ c.envelope_lines-b.ensures
    (puts_then _ _ c.length_lines-c.ensures c.shifter_lines.ensures))
