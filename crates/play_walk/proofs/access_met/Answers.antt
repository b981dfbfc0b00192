use Rattle.play_walk.specs.Walk.{act_met, act_state}
use Rattle.play_walk.proofs.access_met.Goals as goal

pub returns : goal.returns
unfolding act_met act_state
returns c =
    let a = c.accessed-a in record { value = rw (c.walked_to.ensures, c.level-2.ensures, c.level.ensures, a.ensures.value); state_value = λ h. rw c.walked_to.ensures (a.ensures.state_value h) }
