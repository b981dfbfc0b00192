-- By the number: `more_ten`, `more_nine`, `more_eight`, `more_none`. Assumes nothing.
use native.Mathlib.Omega.{arith}
use Rattle.text_lines.proofs.Pieces.{puts, puts_none}
use Rattle.perch_check.proofs.MoreLaws.{more_ten, more_nine, more_eight, more_none}
use Rattle.perch_check.proofs.more.Goals as goal

pub returns-in-10 : goal.returns-in-10
returns-in-10 c =
    let a = c.args in
    rw (more_ten a.log.now a.c c.in-10.is, ← c.totals.ensures)
    (puts _ (c.keyed_line.ensures.value, c.keyed_line.ensures.out_after))

pub returns-in-9 : goal.returns-in-9
returns-in-9 c =
    let a = c.args in
    rw (more_nine a.log.now a.c c.in-9.is, ← c.totals-in-9.ensures)
    c.totals_text.ensures

pub returns-in-8 : goal.returns-in-8
returns-in-8 c =
    let a = c.args in
    rw (more_eight a.log.now a.c c.in-8.is, ← c.open_line.ensures)
    (puts _ (c.keyed_line-in-8.ensures.value, c.keyed_line-in-8.ensures.out_after))

pub returns-in_default : goal.returns-in_default
returns-in_default c =
    let a = c.args in
    rw (more_none a.log.now a.c (λ e. omega (arith, e)) (λ e. omega (arith, e)) (λ e. omega (arith, e))) puts_none
