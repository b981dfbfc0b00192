use Rattle.text_lines.proofs.Pieces.{puts_then}
use Rattle.chip_text.specs.Text.{dmc_lines}
use Rattle.chip_text.proofs.dmc_lines.Goals as goal

pub returns : goal.returns
unfolding dmc_lines
returns c =
    puts_then _ _ c.dmc_rate_lines-a.ensures
    (puts_then _ _ c.dmc_start_lines-b.ensures
    (puts_then _ _ c.dmc_reader_lines-c.ensures c.dmc_shift_lines.ensures))
