use lib.ListN.{get_or}
use native.Mathlib.Omega.{arith}
use native.Mathlib.Nat.{mul-le-mul}
use Rattle.log_salvage.proofs.opened.Goals as goal

pub more-s-requires : goal.more-s-requires
more-s-requires c = let a = c.args in let s = c.requires.0 in (s, s.often a.d, omega arith, omega arith)

pub overflow_mul-w : goal.overflow_mul-w
overflow_mul-w c = let a = c.args in record { fits = omega (arith, mul-le-mul {n₁ = get_or a.t.often a.d 0} {m₁ = a.n} {n₂ = 2000000001} {m₂ = 255} (c.requires.0.often a.d) (omega arith)) }
