use Rattle.text.specs.Ascii.{bytes}
use Rattle.text_lines.proofs.Pieces.{puts, puts_then}
use Rattle.vcd_text.proofs.bits_line.Goals as goal

pub returns : goal.returns
returns c =
    puts_then (bytes "b") _ (puts _ (c.fixed-a.ensures.value, c.fixed-a.ensures.out_after)) (puts_then _ _ (puts _ (c.put_bits-b.ensures.value, c.put_bits-b.ensures.out_after)) (puts _ (c.fixed.ensures.value, c.fixed.ensures.out_after)))
