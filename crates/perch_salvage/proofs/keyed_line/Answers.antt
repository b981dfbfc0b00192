-- Nine texts one behind the other, joined by `puts_then`. Assumes nothing.
use Rattle.text.specs.Ascii.{bytes}
use Rattle.text.specs.Decimal.{decimal_text}
use Rattle.text_lines.proofs.Pieces.{puts, puts_then}
use Rattle.perch_salvage.specs.Verb.{keyed_text}
use Rattle.perch_salvage.proofs.keyed_line.Goals as goal

pub returns : goal.returns
unfolding keyed_text
returns c =
    puts_then _ _ (puts _ (c.fixed-a.ensures.value, c.fixed-a.ensures.out_after))
    (puts_then _ _ (rw c.from.ensures at (puts (decimal_text c.from.result) (c.decimal-b.ensures.value, c.decimal-b.ensures.out_after)))
    (puts_then (bytes ":") _ (puts _ (c.fixed-c.ensures.value, c.fixed-c.ensures.out_after))
    (puts_then _ _ (rw c.from-2.ensures at (puts (decimal_text c.from-2.result) (c.decimal-d.ensures.value, c.decimal-d.ensures.out_after)))
    (puts_then (bytes " line ") _ (puts _ (c.fixed-e.ensures.value, c.fixed-e.ensures.out_after))
    (puts_then _ _ (puts _ (c.decimal-f.ensures.value, c.decimal-f.ensures.out_after))
    (puts_then (bytes ": ") _ (puts _ (c.fixed-g.ensures.value, c.fixed-g.ensures.out_after)) (puts_then _ _ (puts _ (c.fixed-h.ensures.value, c.fixed-h.ensures.out_after)) (puts (bytes "\n") (c.fixed.ensures.value, c.fixed.ensures.out_after)))))))))
    c.requires
