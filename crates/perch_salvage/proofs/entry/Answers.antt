use Rattle.perch_salvage.specs.Verb.{entry_text}
use borrow.Author.Tests.{eq-eqb, ne_eqb}
use Rattle.perch_salvage.proofs.entry.Goals as goal

pub returns-then-second-eq0 : goal.returns-then-second-eq0
unfolding entry_text
returns-then-second-eq0 c =
    let n = c.line_number-line.ensures in rw (eq-eqb _ _ c.if-second-eq0.true, ← n, ← c.line_at.ensures) (record { value = c.keyed.ensures.value; out_after = c.keyed.ensures.out_after })

pub returns : goal.returns
unfolding entry_text
returns c = rw (ne_eqb _ _ c.if-second-eq0.false) (record { value = c.dropped.ensures.value; out_after = c.dropped.ensures.out_after })
