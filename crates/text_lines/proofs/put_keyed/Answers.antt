use Rattle.text.specs.Ascii.{bytes}
use Rattle.text_lines.specs.Lines.{keyed_line}
use Rattle.text_lines.proofs.Pieces.{puts, puts_then}
use Rattle.text_lines.proofs.put_keyed.Goals as goal

pub returns : goal.returns
unfolding keyed_line
returns c =
    puts_then _ _ (puts _ (c.fixed-a.ensures.value, c.fixed-a.ensures.out_after)) (puts_then _ _ (puts _ (c.decimal-b.ensures.value, c.decimal-b.ensures.out_after)) (puts (bytes "\n") (c.fixed.ensures.value, c.fixed.ensures.out_after))) c.requires
