-- Three lines, each with the answer about its channel, joined by `puts_then`. Assumes nothing.
use Rattle.text_lines.proofs.Pieces.{puts_then}
use Rattle.perch_why.specs.Text.{channel_lines}
use Rattle.perch_why.proofs.channel_lines.Goals as goal

pub returns : goal.returns
unfolding channel_lines
returns c =
    rw (← c.why-first.ensures.value, ← c.why-second.ensures.value, ← c.why-noise.ensures.value)
    (puts_then _ _ c.channel_line-a.ensures (puts_then _ _ c.channel_line-b.ensures c.channel_line.ensures))
