use Rattle.text_lines.proofs.Pieces.{puts_then}
use Rattle.perch_interrupts.specs.Text.{change_text}
use Rattle.perch_interrupts.proofs.change_lines.Goals as goal

pub returns : goal.returns
unfolding change_text
returns c =
    puts_then _ _ c.flag_line-a.ensures (puts_then _ _ c.flag_line-b.ensures c.flag_line.ensures)
