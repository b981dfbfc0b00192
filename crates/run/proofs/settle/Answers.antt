use mathlib.Core.Path.{refl}
use Rattle.reading.specs.Counting.{raise}
use Rattle.run.proofs.settle.Goals as goal

pub returns : goal.returns
unfolding raise
returns c = refl
