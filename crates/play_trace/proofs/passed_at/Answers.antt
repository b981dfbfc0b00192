use Rattle.play_trace.proofs.passed_at.Goals as goal

pub returns : goal.returns
returns c = rw (c.passed_of.ensures, c.place_of-p.ensures)
