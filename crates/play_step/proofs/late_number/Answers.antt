use mathlib.Core.Path.{refl}
use borrow.Author.Tests.{eq-eqb, ne_eqb}
use Rattle.play_step.proofs.PortionLaws.{number_late}
use Rattle.play_step.proofs.late_number.Goals as goal

pub returns-then-number-eq0 : goal.returns-then-number-eq0
returns-then-number-eq0 c =
    let a = c.args in
    let n = rw c.from.ensures at c.number_of-number.ensures in
    rw (number_late a.memory.now a.p c.requires, ← n, eq-eqb c.number_of-number.result 0 c.if-number-eq0.true) refl

pub returns-else-number-eq0 : goal.returns-else-number-eq0
returns-else-number-eq0 c =
    let a = c.args in
    let n = rw c.from.ensures at c.number_of-number.ensures in
    rw (number_late a.memory.now a.p c.requires, ← n, ne_eqb c.number_of-number.result 0 c.if-number-eq0.false) refl
