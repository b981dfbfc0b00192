use Rattle.text.specs.Ascii.{bytes}
use Rattle.text_lines.proofs.Pieces.{puts, puts_then}
use Rattle.perch_at.specs.Text.{status_line}
use Rattle.perch_at.proofs.status_line.Goals as goal

pub returns : goal.returns
unfolding status_line
returns c =
    puts_then (bytes "status=") _ (puts _ (c.fixed-a.ensures.value, c.fixed-a.ensures.out_after))
    (puts_then _ _ (puts _ (c.hex-b.ensures.value, c.hex-b.ensures.out_after)) (puts (bytes "\n") (c.fixed.ensures.value, c.fixed.ensures.out_after)))
