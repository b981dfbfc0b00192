use Rattle.play_walk.proofs.start.Goals as goal

pub returns : goal.returns
returns c = rw (c.moment_of.ensures, c.start-c.ensures, c.power_on-s.ensures, c.is_pal.ensures)
