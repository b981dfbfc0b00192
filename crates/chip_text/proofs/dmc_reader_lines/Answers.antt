use Rattle.text_lines.proofs.Pieces.{puts_then}
use Rattle.chip_text.specs.Text.{dmc_reader_lines}
use Rattle.chip_text.proofs.dmc_reader_lines.Goals as goal

pub returns : goal.returns
unfolding dmc_reader_lines
returns c =
    puts_then _ _ c.word_line-a.ensures
    (puts_then _ _ c.word_line-b.ensures
    (puts_then _ _ c.byte_line-c.ensures c.flag_line.ensures))
