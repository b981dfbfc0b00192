-- Six texts one behind the other, joined by `puts_then`. Assumes nothing.
use Rattle.text.specs.Ascii.{bytes}
use Rattle.text_lines.proofs.Pieces.{puts, puts_then}
use Rattle.perch_check.specs.Report.{file_text}
use Rattle.perch_check.proofs.file_refused.Goals as goal

pub returns : goal.returns
unfolding file_text
returns c =
    puts_then _ _ (puts _ (c.refused_line-a.ensures.value, c.refused_line-a.ensures.out_after))
    (puts_then (bytes "byte ") _ (puts _ (c.fixed-b.ensures.value, c.fixed-b.ensures.out_after))
    (puts_then _ _ (puts _ (c.decimal-c.ensures.value, c.decimal-c.ensures.out_after))
    (puts_then (bytes ": ") _ (puts _ (c.fixed-d.ensures.value, c.fixed-d.ensures.out_after)) (puts_then _ _ (puts _ (c.reason-e.ensures.value, c.reason-e.ensures.out_after)) (puts (bytes "\n") (c.fixed.ensures.value, c.fixed.ensures.out_after))))))
