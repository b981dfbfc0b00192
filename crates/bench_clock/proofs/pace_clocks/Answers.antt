use Rattle.bench_clock.proofs.pace_clocks.Goals as goal

pub returns : goal.returns
returns c = simp (c.encode.ensures, c.work-t.ensures, c.decode-s.ensures)
