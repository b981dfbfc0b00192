use native.Mathlib.Omega.{arith}
use borrow.Author.Tests.{ltb-true, ltb-false}
use Rattle.play.proofs.LoopLaws.{no_flag}
use Rattle.play.proofs.goes_on.Goals as goal

pub returns-then-kind-ne-ON : goal.returns-then-kind-ne-ON
returns-then-kind-ne-ON c = (no_flag, λ e k s. absurd (c.if-kind-ne-ON.true k))

pub returns-then-size-at : goal.returns-then-size-at
returns-then-size-at c = (no_flag, λ e k s. omega (arith, c.if-size-at.true))

pub returns-then-size-at-lt23 : goal.returns-then-size-at-lt23
returns-then-size-at-lt23 c = (no_flag, λ e k s. omega (arith, c.if-size-at-lt23.true))

pub returns : goal.returns
returns c = (
  λ e. (c.if-kind-ne-ON.false, omega (arith, c.if-size-at-lt23.false, c.if-size-at.false), ltb-true _ _ e),
  λ e k s. absurd (let l = ltb-false c.args.count 4000010 e in omega (arith, l, s)),
)
