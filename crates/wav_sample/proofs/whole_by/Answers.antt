use native.Mathlib.Omega.{arith}
use Rattle.wav_sample.specs.Closed.{whole_by}
use Rattle.wav_sample.proofs.ClockLaws.{clock_rate_low}
use Rattle.wav_sample.proofs.FitLaws.{by_rate_fits, by_rate_some}
use Rattle.wav_sample.proofs.whole_by.Goals as goal

pub overflow_mul-result : goal.overflow_mul-result
overflow_mul-result c = omega (arith, by_rate_fits c.args.pal c.args.rate c.requires.0 c.args.clock c.requires.1)

pub overflow_sub-result : goal.overflow_sub-result
overflow_sub-result c = by_rate_some c.args.pal c.args.rate c.requires.0 c.args.clock

pub nonzero_div-result : goal.nonzero_div-result
nonzero_div-result c = omega (arith, c.clock_rate.ensures, clock_rate_low c.args.pal)

pub returns : goal.returns
unfolding whole_by
returns c = rw c.clock_rate.ensures
