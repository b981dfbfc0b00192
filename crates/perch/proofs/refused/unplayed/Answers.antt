use mathlib.Core.Path.{ap}
use borrow.Author.Tests.{eq-eqb, ne_eqb}
use Rattle.log_rules.specs.declared.Checked.{Checked}
use Rattle.perch.proofs.refused.unplayed.Goals as goal

pub returns-then-memory-ne32768 : goal.returns-then-memory-ne32768
returns-then-memory-ne32768 c = rw (ne_eqb _ _ c.if-memory-ne32768.true)

pub returns : goal.returns
returns c = rw (eq-eqb _ _ c.if-memory-ne32768.false) (ap (λ (k : Checked). k.number) c.check-k.ensures)
