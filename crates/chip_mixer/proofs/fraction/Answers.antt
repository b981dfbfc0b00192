use mathlib.Core.Path.{refl}
use native.Mathlib.Omega.{arith}
use Rattle.chip_mixer.specs.Fraction.{fraction_of}
use Rattle.chip_mixer.proofs.FractionLaws.{scale_is, over, again}
use Rattle.chip_mixer.proofs.fraction.Goals as goal

pub returns : goal.returns
unfolding fraction_of
returns c = let n = c.args.level in rw scale_is (record { value = refl; exact = over n (omega arith); back = again n (omega arith) })
