-- Seven texts one behind the other, joined by `puts_then`. Assumes nothing.
use Rattle.text.specs.Ascii.{bytes}
use Rattle.text_lines.proofs.Pieces.{puts, puts_then}
use Rattle.perch_meter.specs.Text.{wait_line}
use Rattle.perch_meter.proofs.wait_line.Goals as goal

pub returns : goal.returns
unfolding wait_line
returns c =
    rw (← c.from.ensures)
    (puts_then (bytes "wait=") _ (puts _ (c.fixed-a.ensures.value, c.fixed-a.ensures.out_after))
    (puts_then _ _ (puts _ (c.decimal-b.ensures.value, c.decimal-b.ensures.out_after))
    (puts_then (bytes ":") _ (puts _ (c.fixed-c.ensures.value, c.fixed-c.ensures.out_after))
    (puts_then _ _ (puts _ (c.decimal-d.ensures.value, c.decimal-d.ensures.out_after))
    (puts_then (bytes ":") _ (puts _ (c.fixed-e.ensures.value, c.fixed-e.ensures.out_after)) (puts_then _ _ c.word-f.ensures (puts (bytes "\n") (c.fixed.ensures.value, c.fixed.ensures.out_after))))))))
