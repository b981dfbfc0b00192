use Rattle.play_at.proofs.refused_at.Goals as goal

pub returns : goal.returns
returns c = rw c.power_on.ensures
