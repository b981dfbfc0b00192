use Rattle.play_samples.proofs.written_by.Goals as goal

pub returns : goal.returns
returns c = rw (c.from-2.ensures, c.from.ensures)
