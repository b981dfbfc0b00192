use Rattle.text_lines.proofs.Pieces.{puts, puts_none}
use Rattle.perch_dwell.proofs.Texts.{line_none, line_some}
use Rattle.perch_dwell.proofs.count_line.Goals as goal

pub returns-then-n-eq0 : goal.returns-then-n-eq0
returns-then-n-eq0 c = let a = c.args in rw (line_none a.level a.n c.if-n-eq0.true) puts_none

pub returns : goal.returns
returns c =
    let a = c.args in
    rw (line_some a.level a.n c.if-n-eq0.false) (puts _ (c.pair_line.ensures.value, c.pair_line.ensures.out_after))
