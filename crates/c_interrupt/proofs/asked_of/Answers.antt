use borrow.Author.Tests.{eq-eqb, ne_eqb}
use Rattle.c_interrupt.specs.Packed.{asked_of}
use Rattle.c_interrupt.proofs.asked_of.Goals as goal

pub returns-then-which-eq1 : goal.returns-then-which-eq1
unfolding asked_of
returns-then-which-eq1 c = simp (eq-eqb _ _ c.if-which-eq1.true)

pub returns-then-which-eq2 : goal.returns-then-which-eq2
unfolding asked_of
returns-then-which-eq2 c = simp (ne_eqb _ _ c.if-which-eq1.false, eq-eqb _ _ c.if-which-eq2.true)

pub returns : goal.returns
unfolding asked_of
returns c = simp (ne_eqb _ _ c.if-which-eq1.false, ne_eqb _ _ c.if-which-eq2.false)
