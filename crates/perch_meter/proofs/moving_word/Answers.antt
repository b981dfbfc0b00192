use Rattle.text.specs.Ascii.{bytes}
use Rattle.text_lines.proofs.Pieces.{puts, puts_then}
use Rattle.perch_meter.specs.Text.{moving_word}
use Rattle.perch_meter.proofs.moving_word.Goals as goal

pub returns : goal.returns
unfolding moving_word
returns c =
    puts_then (bytes "moving:") _ (puts _ (c.fixed-a.ensures.value, c.fixed-a.ensures.out_after))
    (puts_then _ _ (puts _ (c.decimal-b.ensures.value, c.decimal-b.ensures.out_after)) (puts_then (bytes ":") _ (puts _ (c.fixed-c.ensures.value, c.fixed-c.ensures.out_after)) (puts _ (c.decimal.ensures.value, c.decimal.ensures.out_after))))
