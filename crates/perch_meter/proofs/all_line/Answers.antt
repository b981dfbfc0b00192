use Rattle.text.specs.Ascii.{bytes}
use Rattle.text_lines.proofs.Pieces.{puts, puts_then}
use Rattle.perch_meter.specs.Text.{all_line}
use Rattle.perch_meter.proofs.all_line.Goals as goal

pub returns : goal.returns
unfolding all_line
returns c =
    puts_then (bytes "all=") _ (puts _ (c.fixed-a.ensures.value, c.fixed-a.ensures.out_after)) (puts_then _ _ c.word-b.ensures (puts (bytes "\n") (c.fixed.ensures.value, c.fixed.ensures.out_after)))
