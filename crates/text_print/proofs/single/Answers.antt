use mathlib.Core.Path.{sym}
use native.Mathlib.Omega.{arith}
use Rattle.text_print.proofs.StoreLaws.{fill_end, fill_single}
use Rattle.text_print.proofs.single.Goals as goal

pub returns-then-k-gt0 : goal.returns-then-k-gt0
returns-then-k-gt0 c =
    let a = c.args in
    fill_single a.out.now a.at a.k a.n _ (omega (arith, c.requires)) c.last_digit.ensures

pub returns-else-k-gt0 : goal.returns-else-k-gt0
returns-else-k-gt0 c =
    let a = c.args in
    sym (fill_end a.out.now a.at a.k a.n (omega arith))
