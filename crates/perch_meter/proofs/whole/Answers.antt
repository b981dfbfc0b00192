use Rattle.text.specs.Ascii.{bytes}
use Rattle.text_lines.proofs.Pieces.{puts, puts_then}
use Rattle.perch_meter.specs.Text.{meter_text}
use Rattle.perch_meter.proofs.whole.Goals as goal

pub returns : goal.returns
unfolding meter_text
returns c =
    rw (← c.whole-t.ensures) (puts_then (bytes "meter=1\n") _ (puts _ (c.fixed-a.ensures.value, c.fixed-a.ensures.out_after)) c.outcome.ensures)
