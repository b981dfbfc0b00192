use mathlib.Core.Path.{sym, ◌∙◌, refl}
use borrow.Author.Tests.{ne_eqb}
use Rattle.c_run.specs.Runs.{no_table}
use Rattle.c_run.proofs.no_table.Goals as goal

pub returns-then-number-ne0 : goal.returns-then-number-ne0
unfolding no_table
returns-then-number-ne0 c = rw (← c.number_of-number.ensures, ne_eqb _ 0 c.if-number-ne0.true) refl

pub returns-else-number-ne0 : goal.returns-else-number-ne0
unfolding no_table
returns-else-number-ne0 c = rw (sym c.number_of-number.ensures ∙ c.if-number-ne0.false) refl
