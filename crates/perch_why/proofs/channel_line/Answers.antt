use Rattle.text.specs.Ascii.{bytes}
use Rattle.text_lines.proofs.Pieces.{puts, puts_then}
use Rattle.perch_why.specs.Text.{channel_line}
use Rattle.perch_why.proofs.channel_line.Goals as goal

pub returns : goal.returns
unfolding channel_line
returns c =
    puts_then _ _ (puts _ (c.fixed-a.ensures.value, c.fixed-a.ensures.out_after)) (puts_then _ _ c.word-b.ensures (puts (bytes "\n") (c.fixed.ensures.value, c.fixed.ensures.out_after)))
