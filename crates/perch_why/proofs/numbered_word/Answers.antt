use Rattle.text_lines.proofs.Pieces.{puts, puts_then}
use Rattle.perch_why.specs.Text.{numbered}
use Rattle.perch_why.proofs.numbered_word.Goals as goal

pub returns : goal.returns
unfolding numbered
returns c = puts_then _ _ (puts _ (c.fixed-a.ensures.value, c.fixed-a.ensures.out_after)) (puts _ (c.decimal.ensures.value, c.decimal.ensures.out_after))
