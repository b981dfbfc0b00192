use Rattle.text.specs.Ascii.{bytes}
use Rattle.text_lines.proofs.Pieces.{puts, puts_then}
use Rattle.perch_sheet.specs.Report.{level_line}
use Rattle.perch_sheet.proofs.level_line.Goals as goal

pub returns : goal.returns
unfolding level_line
returns c =
    puts_then _ _ (puts _ (c.hex_four-a.ensures.value, c.hex_four-a.ensures.out_after))
    (puts_then (bytes ":") _ (puts _ (c.fixed-b.ensures.value, c.fixed-b.ensures.out_after)) (puts_then _ _ (puts _ (rw c.from.ensures at c.decimal-c.ensures.value, rw c.from.ensures at c.decimal-c.ensures.out_after)) (puts (bytes "\n") (c.fixed.ensures.value, c.fixed.ensures.out_after))))
