use mathlib.Core.Path.{refl}
use borrow.Author.Tests.{eq-eqb, ne_eqb}
use Rattle.run.proofs.mark.Goals as goal

pub returns-then-level-was : goal.returns-then-level-was
returns-then-level-was c =
    let a = c.args in rw (eq-eqb a.level a.was c.if-level-was.true) (record { value = refl; words_after = refl })

pub returns : goal.returns
returns c =
    let a = c.args in rw (ne_eqb a.level a.was c.if-level-was.false) (record { value = refl; words_after = rw c.from.ensures at c.put.ensures })
