use Rattle.perch_why.specs.Text.{step_word}
use Rattle.perch_why.proofs.step_word.Goals as goal

pub returns-then-noise : goal.returns-then-noise
unfolding step_word
returns-then-noise c = rw c.if-noise.true (record { value = c.fixed.ensures.value; out_after = c.fixed.ensures.out_after })

pub returns : goal.returns
unfolding step_word
returns c = rw c.if-noise.false (record { value = c.fixed-2.ensures.value; out_after = c.fixed-2.ensures.out_after })
