use Rattle.text.specs.Ascii.{bytes}
use Rattle.text_lines.proofs.Pieces.{puts, puts_then}
use Rattle.perch_import.specs.Words.{clock_text}
use Rattle.perch_import.proofs.clock_words.Goals as goal

pub returns : goal.returns
unfolding clock_text
returns c =
    puts_then (bytes "perch: the NES clock at $84 is ") _ (puts _ (c.fixed-a.ensures.value, c.fixed-a.ensures.out_after)) (puts_then _ _ (puts _ (rw c.from.ensures at c.decimal-b.ensures.value, rw c.from.ensures at c.decimal-b.ensures.out_after)) (puts (bytes ": taken as NTSC\n") (c.fixed.ensures.value, c.fixed.ensures.out_after)))
