use Rattle.play_walk.specs.Walk.{act_met, act_state}
use Rattle.play_walk.proofs.act_met.Goals as goal

pub returns-in-Wait : goal.returns-in-Wait
unfolding act_met act_state
returns-in-Wait c = rw c.in-Wait.is (record { value = c.walked_to.ensures; state_value = λ h. rw c.walked_to.ensures h })

pub returns-in-Access : goal.returns-in-Access
returns-in-Access c = rw c.in-Access.is (record { value = c.access_met.ensures.value; state_value = c.access_met.ensures.state_value })
