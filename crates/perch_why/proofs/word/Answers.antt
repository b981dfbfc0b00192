-- Each `returns` is one case of `reason_word`. Assumes nothing.
use Rattle.text_lines.proofs.Pieces.{puts}
use Rattle.perch_why.specs.Text.{reason_word}
use Rattle.perch_why.proofs.word.Goals as goal

pub returns-in-Refused : goal.returns-in-Refused
unfolding reason_word
returns-in-Refused c = rw c.in-Refused.is c.numbered_word.ensures

pub returns-in-NotEnabled : goal.returns-in-NotEnabled
unfolding reason_word
returns-in-NotEnabled c = rw c.in-NotEnabled.is (puts _ (c.fixed.ensures.value, c.fixed.ensures.out_after))

pub returns-in-LengthZero : goal.returns-in-LengthZero
unfolding reason_word
returns-in-LengthZero c = rw c.in-LengthZero.is (puts _ (c.fixed-in-LengthZero.ensures.value, c.fixed-in-LengthZero.ensures.out_after))

pub returns-in-PeriodLow : goal.returns-in-PeriodLow
unfolding reason_word
returns-in-PeriodLow c = rw c.in-PeriodLow.is (puts _ (c.fixed-in-PeriodLow.ensures.value, c.fixed-in-PeriodLow.ensures.out_after))

pub returns-in-TargetHigh : goal.returns-in-TargetHigh
unfolding reason_word
returns-in-TargetHigh c = rw c.in-TargetHigh.is (puts _ (c.fixed-in-TargetHigh.ensures.value, c.fixed-in-TargetHigh.ensures.out_after))

pub returns-in-StepLow : goal.returns-in-StepLow
unfolding reason_word
returns-in-StepLow c = rw c.in-StepLow.is (puts _ (c.step_word.ensures.value, c.step_word.ensures.out_after))

pub returns-in-VolumeZero : goal.returns-in-VolumeZero
unfolding reason_word
returns-in-VolumeZero c = rw c.in-VolumeZero.is (puts _ (c.fixed-in-VolumeZero.ensures.value, c.fixed-in-VolumeZero.ensures.out_after))

pub returns-in-Sounds : goal.returns-in-Sounds
unfolding reason_word
returns-in-Sounds c = rw c.in-Sounds.is c.numbered_word-in-Sounds.ensures
