-- The channels one behind the other, joined by `puts_then`. Assumes nothing.
use Rattle.text_lines.proofs.Pieces.{puts_then}
use Rattle.chip_text.specs.Text.{state_text}
use Rattle.chip_text.proofs.fields.Goals as goal

pub returns : goal.returns
unfolding state_text
returns c =
    puts_then _ _ c.square_lines-a.ensures
    (puts_then _ _ c.square_lines-b.ensures
    (puts_then _ _ c.triangle_lines-c.ensures
    (puts_then _ _ c.noise_lines-d.ensures
    (puts_then _ _ c.dmc_lines-e.ensures c.frame_lines.ensures))))
