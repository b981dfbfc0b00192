use Rattle.play_samples.proofs.within.Goals as goal

pub returns : goal.returns
returns c = rw c.weighed-own.ensures.value
