use mathlib.Core.Path.{refl}
use native.Mathlib.Omega.{arith}
use Rattle.play_levels.proofs.WordLaws.{tens_four, hundreds_most}
use Rattle.play_levels.proofs.tens.Goals as goal

pub overflow_mul-first : goal.overflow_mul-first
overflow_mul-first c = omega (arith, hundreds_most c.args.p c.requires)

pub returns : goal.returns
returns c = tens_four c.args.p _ _ _ _ c.requires refl refl refl refl
