use native.Mathlib.Omega.{arith}
use borrow.Author.Tests.{eq-eqb, ne_eqb}
use Rattle.c_state.specs.Flags.{told, flags_right}
use Rattle.c_state.proofs.BackLaws.{told_right}
use Rattle.c_state.proofs.is_state.Goals as goal

pub returns-then-b-eq-SIZE : goal.returns-then-b-eq-SIZE
unfolding told flags_right
returns-then-b-eq-SIZE c =
    rw (← told_right c.args.b.now (λ i. omega (arith, c.type_inv.b i)), eq-eqb _ _ c.if-b-eq-SIZE.true) c.flags_right.ensures

pub returns-else-b-eq-SIZE : goal.returns-else-b-eq-SIZE
unfolding told flags_right
returns-else-b-eq-SIZE c =
    rw (← told_right c.args.b.now (λ i. omega (arith, c.type_inv.b i)), ne_eqb _ _ c.if-b-eq-SIZE.false)
