use Prim.Native.Nat.{ℕ, ◌+◌}
use mathlib.Core.Path.{ap₂}
use native.Mathlib.Omega.{arith}
use Rattle.play_levels.proofs.DigitLaws.{lacking}
use Rattle.play_levels.proofs.missing.Goals as goal

pub overflow_add-result : goal.overflow_add-result
overflow_add-result c = omega (arith, c.short.ensures.1, c.short-2.ensures.1)

pub overflow_add-result-2 : goal.overflow_add-result-2
overflow_add-result-2 c = omega (arith, c.short.ensures.1, c.short-2.ensures.1, c.short-3.ensures.1)

pub overflow_add-result-3 : goal.overflow_add-result-3
overflow_add-result-3 c = omega (arith, c.short.ensures.1, c.short-2.ensures.1, c.short-3.ensures.1, c.short-4.ensures.1)

pub returns : goal.returns
returns c =
    let plus : ℕ → ℕ → ℕ = λ x y. x + y in
    lacking c.args.n _ c.requires
    (ap₂ plus (ap₂ plus (ap₂ plus c.short.ensures.0 c.short-2.ensures.0) c.short-3.ensures.0) c.short-4.ensures.0)
