use lib.Ieee.{of_bits}
use Rattle.chip_api.specs.Answer.{level_f32_answer}
use Rattle.chip_api.proofs.level_f32.Goals as goal

pub returns-then-in_range : goal.returns-then-in_range
unfolding level_f32_answer
returns-then-in_range c = simp (c.fraction.ensures.value, c.level.ensures, c.if-in_range.true, ← c.in_range.ensures)

pub returns-else-in_range : goal.returns-else-in_range
unfolding level_f32_answer of_bits
returns-else-in_range c = simp (c.if-in_range.false, ← c.in_range.ensures)
