use borrow.Author.Tests.{le-leb, lt-leb}
use native.Mathlib.Omega.{arith}
use Rattle.vgm_cursor.specs.Walking.{gap_at, wait_on}
use Rattle.vgm_cursor.proofs.WaitLaws.{wait_fits}
use Rattle.vgm_cursor.proofs.wait_on.Goals as goal

pub overflow_add-result : goal.overflow_add-result
unfolding gap_at
overflow_add-result c =
    let s = c.args.c in
    let f = wait_fits c.args.pal s.samples s.clock (omega arith) (omega arith) in
    omega (arith, c.min-n.ensures, c.gap_at.ensures)

pub returns-then-c-le100000000 : goal.returns-then-c-le100000000
unfolding wait_on
returns-then-c-le100000000 c = simp (c.min-n.ensures, c.gap_at.ensures, le-leb _ _ c.if-c-le100000000.true)

pub returns : goal.returns
unfolding wait_on
returns c = simp (lt-leb _ _ c.if-c-le100000000.false)
