use Rattle.text.specs.Ascii.{bytes}
use Rattle.text_lines.proofs.Pieces.{puts, puts_then}
use Rattle.perch_dwell.specs.Text.{dwell_text}
use Rattle.perch_dwell.proofs.whole.Goals as goal

pub returns : goal.returns
unfolding dwell_text
returns c =
    rw (← c.whole-t.ensures) (puts_then (bytes "dwell=1\n") _ (puts _ (c.fixed-a.ensures.value, c.fixed-a.ensures.out_after)) c.outcome.ensures)
