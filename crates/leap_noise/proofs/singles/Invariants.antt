use mathlib.Core.Path.{◌≡◌}
use Rattle.arith.specs.Iterate.{iterate}
use Rattle.chip_noise.specs.Shifter.{shifted_of}
use Rattle.leap_noise.proofs.singles.Given as goal

abbrev pub invariant-loop-i : goal.invariant-loop-i
invariant-loop-i l = l.x ≡ iterate (shifted_of l.mode) l._i l.register
