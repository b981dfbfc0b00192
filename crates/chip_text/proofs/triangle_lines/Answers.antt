use Rattle.text_lines.proofs.Pieces.{puts_then}
use Rattle.chip_text.specs.Text.{triangle_lines}
use Rattle.chip_text.proofs.triangle_lines.Goals as goal

pub returns : goal.returns
unfolding triangle_lines
returns c =
    puts_then _ _ c.linear_lines-a.ensures
    (puts_then _ _ c.timer_lines-b.ensures
    (puts_then _ _ c.byte_line-c.ensures c.length_lines.ensures))
