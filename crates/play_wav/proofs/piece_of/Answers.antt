use Rattle.play_wav.proofs.piece_of.Goals as goal

pub returns : goal.returns
returns c = simp (c.sounded_of.ensures, c.wav_of-v.ensures)
