use mathlib.Core.Path.{refl}
use borrow.Author.Tests.{eq-eqb, ne_eqb}
use Rattle.play_rules.specs.Turns.{phase_turn}
use Rattle.play_turn.proofs.phase_turn.Goals as goal

pub returns-then-p-eq-OPENING : goal.returns-then-p-eq-OPENING
unfolding phase_turn
returns-then-p-eq-OPENING c = record { value = rw (eq-eqb _ _ c.if-p-eq-OPENING.true) refl; keeps = λ h. h }

pub returns-then-p-eq-FIRST : goal.returns-then-p-eq-FIRST
unfolding phase_turn
returns-then-p-eq-FIRST c = record { value = rw (ne_eqb _ _ c.if-p-eq-OPENING.false, eq-eqb _ _ c.if-p-eq-FIRST.true, c.level-level.ensures) refl; keeps = λ h. h }

pub returns : goal.returns
unfolding phase_turn
returns c = record { value = rw (ne_eqb _ _ c.if-p-eq-OPENING.false, ne_eqb _ _ c.if-p-eq-FIRST.false) refl; keeps = λ h. h }
