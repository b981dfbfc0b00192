use native.Mathlib.Omega.{arith}
use native.Mathlib.Nat.{mul-le-mul}
use Rattle.log_salvage.proofs.more.Goals as goal

pub overflow_mul-w : goal.overflow_mul-w
overflow_mul-w c = record { fits = omega (arith, mul-le-mul {n₁ = c.args.w} {m₁ = c.args.clocks} {n₂ = 2000000001} {m₂ = 4294967295} (omega arith) (omega arith)) }

pub overflow_add-t : goal.overflow_add-t
overflow_add-t c = omega (arith, mul-le-mul {n₁ = c.args.w} {m₁ = c.args.clocks} {n₂ = 2000000001} {m₂ = 4294967295} (omega arith) (omega arith))

pub overflow_mul-w-2 : goal.overflow_mul-w-2
overflow_mul-w-2 c = record { fits = omega (arith, mul-le-mul {n₁ = c.args.w} {m₁ = c.args.turns} {n₂ = 2000000001} {m₂ = 255} (omega arith) (omega arith)) }

pub overflow_add-t-2 : goal.overflow_add-t-2
overflow_add-t-2 c = omega (arith, mul-le-mul {n₁ = c.args.w} {m₁ = c.args.turns} {n₂ = 2000000001} {m₂ = 255} (omega arith) (omega arith))
