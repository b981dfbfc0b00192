use native.Mathlib.Omega.{arith}
use borrow.Author.Tests.{eq-eqb, ne_eqb}
use Rattle.c_player.proofs.BackLaws.{told_right}
use Rattle.c_player.proofs.is_player.Goals as goal

pub returns-then-b-eq-SIZE : goal.returns-then-b-eq-SIZE
returns-then-b-eq-SIZE c =
    rw (← told_right c.args.b.now (λ i. omega (arith, c.type_inv.b i)), eq-eqb _ _ c.if-b-eq-SIZE.true)
    (simp (c.is_state.ensures, c.state_part.ensures))

pub returns-else-b-eq-SIZE : goal.returns-else-b-eq-SIZE
returns-else-b-eq-SIZE c =
    rw (← told_right c.args.b.now (λ i. omega (arith, c.type_inv.b i)), ne_eqb _ _ c.if-b-eq-SIZE.false)
