use Rattle.text.specs.Ascii.{bytes}
use Rattle.text_lines.proofs.Pieces.{puts, puts_then}
use Rattle.perch_at.specs.Text.{at_text}
use Rattle.perch_at.proofs.whole.Goals as goal

pub returns : goal.returns
unfolding at_text
returns c =
    rw (← c.state_at-t.ensures.value) (puts_then (bytes "at=1\n") _ (puts _ (c.fixed-a.ensures.value, c.fixed-a.ensures.out_after)) c.outcome.ensures)
