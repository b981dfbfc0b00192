use Rattle.play_wav.proofs.opening.Goals as goal

pub returns : goal.returns
returns c = simp (c.wav_of-w.ensures, c.start-p.ensures)
