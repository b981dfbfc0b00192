use Rattle.text_lines.proofs.Pieces.{puts, puts_then}
use Rattle.perch_why.proofs.reached_lines.Goals as goal

pub returns : goal.returns
returns c = puts_then _ _ (puts _ (c.keyed_line-a.ensures.value, c.keyed_line-a.ensures.out_after)) c.channel_lines.ensures
