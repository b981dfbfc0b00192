use Rattle.text_lines.proofs.Pieces.{puts_then}
use Rattle.chip_text.specs.Text.{sweep_register_lines}
use Rattle.chip_text.proofs.sweep_register_lines.Goals as goal

pub returns : goal.returns
unfolding sweep_register_lines
returns c =
    puts_then _ _ c.flag_line-a.ensures
    (puts_then _ _ c.flag_line-b.ensures
    (puts_then _ _ c.byte_line-c.ensures c.byte_line.ensures))
