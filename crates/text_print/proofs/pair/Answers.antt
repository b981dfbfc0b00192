use native.Mathlib.Omega.{arith}
use lib.ListN.{length-set}
use Rattle.text_print.proofs.pair.Goals as goal

pub bounds-out-at-2 : goal.bounds-out-at-2
bounds-out-at-2 c = simp length-set (omega arith)

pub returns : goal.returns
returns c = rw (c.last_digit-2.ensures, c.last_digit.ensures)
