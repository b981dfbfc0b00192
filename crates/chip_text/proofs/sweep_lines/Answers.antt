use Rattle.text_lines.proofs.Pieces.{puts_then}
use Rattle.chip_text.specs.Text.{sweep_lines}
use Rattle.chip_text.proofs.sweep_lines.Goals as goal

pub returns : goal.returns
unfolding sweep_lines
returns c =
    puts_then _ _ c.sweep_register_lines-a.ensures
    (puts_then _ _ c.flag_line-b.ensures c.byte_line.ensures)
