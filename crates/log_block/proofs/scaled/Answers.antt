use Prim.Native.Nat.{◌+◌}
use native.Mathlib.Nat.{mul-le-mul}
use native.Mathlib.Omega.{arith}
use Rattle.log_block.proofs.scaled.Goals as goal

pub overflow_mul-n : goal.overflow_mul-n
overflow_mul-n c =
    record { fits = omega (arith, mul-le-mul {n₁ = c.args.n} {m₁ = c.args.a.clocks} {n₂ = 255} {m₂ = 2000000001} (omega arith) (omega arith)) }

pub overflow_mul-n-2 : goal.overflow_mul-n-2
overflow_mul-n-2 c =
    record { fits = omega (arith, mul-le-mul {n₁ = c.args.n} {m₁ = 1 + c.args.a.turns} {n₂ = 255} {m₂ = 1000002} (omega arith) (omega arith)) }

pub overflow_mul-n-3 : goal.overflow_mul-n-3
overflow_mul-n-3 c =
    record { fits = omega (arith, mul-le-mul {n₁ = c.args.n} {m₁ = c.args.a.items} {n₂ = 255} {m₂ = 1000001} (omega arith) (omega arith)) }
