use Rattle.c_wav.specs.Wavs.{wav_in}
use Rattle.c_wav.proofs.wav_in.Goals as goal

pub returns-then-is_wav : goal.returns-then-is_wav
unfolding wav_in
returns-then-is_wav c = simp (c.decode.ensures, c.if-is_wav.true, ← c.is_wav.ensures)

pub returns : goal.returns
unfolding wav_in
returns c = simp (c.outside.ensures, c.if-is_wav.false, ← c.is_wav.ensures)
