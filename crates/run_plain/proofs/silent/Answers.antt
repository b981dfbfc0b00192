use mathlib.Core.Path.{refl}
use Rattle.run_plain.specs.Heard.{silence}
use Rattle.run_plain.proofs.silent.Goals as goal

pub returns : goal.returns
unfolding silence
returns c = refl
