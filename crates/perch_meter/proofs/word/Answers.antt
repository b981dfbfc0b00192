-- Two of the cases of `meter_word`; the check finds the others. Assumes nothing.
use Rattle.text_lines.proofs.Pieces.{puts}
use Rattle.perch_meter.specs.Text.{meter_word}
use Rattle.perch_meter.proofs.word.Goals as goal

pub returns-in-NoLevels : goal.returns-in-NoLevels
unfolding meter_word
returns-in-NoLevels c = rw c.in-NoLevels.is (puts _ (c.fixed.ensures.value, c.fixed.ensures.out_after))

pub returns-in-Silent : goal.returns-in-Silent
unfolding meter_word
returns-in-Silent c = rw c.in-Silent.is (puts _ (c.fixed-in-Silent.ensures.value, c.fixed-in-Silent.ensures.out_after))
