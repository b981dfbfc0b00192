use Rattle.play_trace.proofs.clocks_past.Goals as goal

pub returns : goal.returns
returns c = rw (c.place_of.ensures, c.saturating_sub.ensures, c.moment_of-here.ensures, c.from.ensures)
