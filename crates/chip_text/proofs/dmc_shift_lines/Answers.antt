use Rattle.text_lines.proofs.Pieces.{puts_then}
use Rattle.chip_text.specs.Text.{dmc_shift_lines}
use Rattle.chip_text.proofs.dmc_shift_lines.Goals as goal

pub returns : goal.returns
unfolding dmc_shift_lines
returns c =
    puts_then _ _ c.byte_line-a.ensures
    (puts_then _ _ c.byte_line-b.ensures
    (puts_then _ _ c.flag_line-c.ensures c.flag_line.ensures))
