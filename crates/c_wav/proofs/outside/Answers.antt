use Rattle.c_wav.specs.Wavs.{outside_wav}
use Rattle.c_state.specs.Bytes.{outside}
use Rattle.c_wav.proofs.outside.Goals as goal

pub returns : goal.returns
unfolding outside_wav outside
returns c = simp (c.moment_of-moment.ensures, c.decode-state.ensures, c.decode-cursor.ensures)
