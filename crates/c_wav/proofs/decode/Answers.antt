use Rattle.c_wav.specs.Wavs.{wav_at}
use Rattle.c_wav.proofs.decode.Goals as goal

pub returns : goal.returns
unfolding wav_at
returns c = simp (c.moment_of-moment.ensures, c.decode-state.ensures, c.state_part.ensures, c.decode-cursor.ensures, c.cursor_part.ensures, c.usize_at-time.ensures, c.usize_at-sum.ensures, c.usize_at-sample.ensures, c.u32_at-left.ensures, c.u32_at-count.ensures, c.u32_at-rate.ensures, c.flag_at-begun.ensures)
