use mathlib.Core.Path.{refl}
use native.Mathlib.Omega.{arith}
use borrow.Author.Tests.{eq-eqb, ne_eqb}
use Rattle.reading.specs.Counting.{raise}
use Rattle.run_plain.proofs.note.Goals as goal

pub overflow_cast-place : goal.overflow_cast-place
overflow_cast-place c = omega (arith, c.requires.s_bound)

pub offset_bounds-table-place : goal.offset_bounds-table-place
offset_bounds-table-place c = omega (arith, c.requires.s_bound)

pub offset_bounds-table-place-2 : goal.offset_bounds-table-place-2
offset_bounds-table-place-2 c = omega (arith, c.requires.s_bound)

pub returns-then-level-was : goal.returns-then-level-was
unfolding raise
returns-then-level-was c =
    let a = c.args in rw (eq-eqb a.level a.was c.if-level-was.true) (record { value = refl; words_after = refl; table_after = refl })

pub returns : goal.returns
unfolding raise
returns c =
    let a = c.args in rw (ne_eqb a.level a.was c.if-level-was.false) (record { value = refl; words_after = rw c.from.ensures at c.put.ensures; table_after = refl })
