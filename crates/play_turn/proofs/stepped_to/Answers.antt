use mathlib.Core.Path.{refl}
use Rattle.play_rules.specs.Turns.{step_said}
use Rattle.play_turn.proofs.stepped_to.Goals as goal

pub returns-in-Act : goal.returns-in-Act
unfolding step_said
returns-in-Act c = rw c.in-Act.is (record { value = c.at_act.ensures.value; keeps = c.at_act.ensures.keeps })

pub returns-in-Moved : goal.returns-in-Moved
unfolding step_said
returns-in-Moved c = record { value = rw (c.in-Moved.is, c.at_cursor.ensures) refl; keeps = λ h. rw c.at_cursor.ensures h }

pub returns-in-End : goal.returns-in-End
unfolding step_said
returns-in-End c = record { value = rw (c.in-End.is, c.at_cursor-in-End.ensures) refl; keeps = λ h. rw c.at_cursor-in-End.ensures h }

pub returns-in-Refused : goal.returns-in-Refused
unfolding step_said
returns-in-Refused c = record { value = rw c.in-Refused.is refl; keeps = λ h. h }
