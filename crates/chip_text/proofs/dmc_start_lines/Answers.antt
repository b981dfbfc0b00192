use Rattle.text_lines.proofs.Pieces.{puts_then}
use Rattle.chip_text.specs.Text.{dmc_start_lines}
use Rattle.chip_text.proofs.dmc_start_lines.Goals as goal

pub returns : goal.returns
unfolding dmc_start_lines
returns c =
    puts_then _ _ c.byte_line-a.ensures
    (puts_then _ _ c.byte_line-b.ensures c.byte_line.ensures)
