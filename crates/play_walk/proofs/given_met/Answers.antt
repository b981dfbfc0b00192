use Rattle.play_walk.specs.Walk.{given_met}
use Rattle.play_walk.proofs.given_met.Goals as goal

pub returns-in-Act : goal.returns-in-Act
unfolding given_met
returns-in-Act c = rw c.in-Act.is (record { value = c.act_met.ensures.value; state_value = c.act_met.ensures.state_value })

pub returns-in-Moved : goal.returns-in-Moved
unfolding given_met
returns-in-Moved c = rw c.in-Moved.is (record { value = c.walked_to.ensures; state_value = λ h. rw c.walked_to.ensures h })

pub returns-in-End : goal.returns-in-End
unfolding given_met
returns-in-End c = rw c.in-End.is (record { value = c.walked_to-in-End.ensures; state_value = λ h. rw c.walked_to-in-End.ensures h })

pub returns-in-Refused : goal.returns-in-Refused
unfolding given_met
returns-in-Refused c = rw c.in-Refused.is (record { value = c.walked_to-in-Refused.ensures; state_value = λ h. rw c.walked_to-in-Refused.ensures h })
