use borrow.Author.Tests.{eq-eqb, ne_eqb}
use mathlib.Core.Path.{refl}
use native.Mathlib.Omega.{arith}
use Rattle.vgm_measure.specs.Measure.{gap_turns}
use Rattle.vgm_measure.proofs.gap_turns.Goals as goal

pub returns-then-g-eq0 : goal.returns-then-g-eq0
unfolding gap_turns
returns-then-g-eq0 c = rw (eq-eqb _ _ c.if-g-eq0.true) (refl, omega arith)

pub returns-else-g-eq0 : goal.returns-else-g-eq0
unfolding gap_turns
returns-else-g-eq0 c = rw (ne_eqb _ _ c.if-g-eq0.false) (refl, omega arith)
