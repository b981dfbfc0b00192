use mathlib.Core.Path.{refl}
use native.Mathlib.Omega.{arith}
use Rattle.wav_sample.proofs.FitLaws.{level_fits}
use Rattle.play_samples.proofs.weighed.Goals as goal

pub overflow_mul-result : goal.overflow_mul-result
overflow_mul-result c = omega (arith, level_fits c.args.v c.args.clocks (omega arith))

pub returns : goal.returns
returns c = record { value = refl; upper_bound = level_fits c.args.v c.args.clocks (omega arith) }
