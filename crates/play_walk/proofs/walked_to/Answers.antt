use Rattle.play_walk.proofs.walked_to.Goals as goal

pub returns : goal.returns
returns c = rw c.moment_of-m.ensures
