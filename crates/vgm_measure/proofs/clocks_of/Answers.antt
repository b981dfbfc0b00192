use Rattle.vgm_measure.specs.Import.{stood}
use Rattle.vgm_measure.proofs.BoundLaws.{clocks_fit}
use native.Mathlib.Omega.{arith}
use Rattle.vgm_measure.proofs.clocks_of.Goals as goal

pub overflow_mul-result : goal.overflow_mul-result
overflow_mul-result c = record { fits = rw c.clock_rate-rate.ensures (clocks_fit c.args.pal c.args.s (omega arith)) }

pub returns : goal.returns
unfolding stood
returns c = rw c.clock_rate-rate.ensures
