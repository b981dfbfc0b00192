use Rattle.play_begin.proofs.opening.Goals as goal

pub returns : goal.returns
returns c = rw c.first-p.ensures
