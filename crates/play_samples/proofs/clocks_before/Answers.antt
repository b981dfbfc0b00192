use native.Mathlib.Omega.{arith}
use Rattle.wav_sample.specs.Samples.{clocks_before}
use Rattle.wav_sample.proofs.FitLaws.{ticks_fit, rate_some}
use Rattle.play_samples.proofs.clocks_before.Goals as goal

pub overflow_mul-result : goal.overflow_mul-result
overflow_mul-result c =
    rw c.clock_rate.ensures (omega (arith, ticks_fit c.args.pal c.args.rate c.requires.0 c.args.sample c.requires.1))

pub nonzero_div-result : goal.nonzero_div-result
nonzero_div-result c = rate_some c.args.pal c.args.rate c.requires.0

pub returns : goal.returns
unfolding clocks_before
returns c = rw c.clock_rate.ensures
