use Rattle.play_trace.proofs.start.Goals as goal

pub returns : goal.returns
returns c = rw (c.place_of.ensures, c.start-m.ensures)
