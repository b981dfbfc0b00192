use Rattle.text.specs.Ascii.{bytes}
use Rattle.text_lines.proofs.Pieces.{puts, puts_then}
use Rattle.vcd_text.specs.Lines.{time_line}
use Rattle.vcd_text.proofs.time_line.Goals as goal

pub returns : goal.returns
unfolding time_line
returns c =
    puts_then (bytes "#") _ (puts _ (c.fixed-a.ensures.value, c.fixed-a.ensures.out_after)) (puts_then _ _ c.long_decimal-b.ensures (puts (bytes "\n") (c.fixed.ensures.value, c.fixed.ensures.out_after)))
