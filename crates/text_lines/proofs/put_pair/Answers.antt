use Rattle.text.specs.Ascii.{bytes}
use Rattle.text_lines.specs.Lines.{pair_line}
use Rattle.text_lines.proofs.Pieces.{puts, puts_then}
use Rattle.text_lines.proofs.put_pair.Goals as goal

pub returns : goal.returns
unfolding pair_line
returns c =
    puts_then _ _ (puts _ (c.fixed-c.ensures.value, c.fixed-c.ensures.out_after))
    (puts_then _ _ (puts _ (c.decimal-d.ensures.value, c.decimal-d.ensures.out_after))
    (puts_then (bytes ":") _ (puts _ (c.fixed-e.ensures.value, c.fixed-e.ensures.out_after))
    (puts_then _ _ (puts _ (c.decimal-f.ensures.value, c.decimal-f.ensures.out_after))
    (puts (bytes "\n") (c.fixed.ensures.value, c.fixed.ensures.out_after)))))
    c.requires
