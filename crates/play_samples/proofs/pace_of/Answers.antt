use native.Mathlib.Nat.{mod-lt}
use native.Mathlib.Omega.{arith}
use Rattle.wav_sample.proofs.ClockLaws.{clock_rate_top}
use Rattle.wav_sample.proofs.FitLaws.{rate_some}
use Rattle.play_samples.proofs.pace_of.Goals as goal

pub overflow_cast-f : goal.overflow_cast-f
overflow_cast-f c = omega (arith, c.clock_rate-f.ensures, clock_rate_top c.args.pal)

pub nonzero_div-result : goal.nonzero_div-result
nonzero_div-result c = rate_some c.args.pal c.args.rate c.requires

pub nonzero_rem-result : goal.nonzero_rem-result
nonzero_rem-result c = rate_some c.args.pal c.args.rate c.requires

pub nonzero_rem-result-2 : goal.nonzero_rem-result-2
nonzero_rem-result-2 c = rate_some c.args.pal c.args.rate c.requires

pub overflow_sub-result : goal.overflow_sub-result
overflow_sub-result c =
    let m = mod-lt c.clock_rate-f.result (rate_some c.args.pal c.args.rate c.requires) in
    omega (arith, m)

pub returns : goal.returns
returns c = rw c.clock_rate-f.ensures
