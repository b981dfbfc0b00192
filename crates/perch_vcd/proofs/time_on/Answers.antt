use native.Mathlib.Omega.{arith}
use borrow.Author.Tests.{eq-eqb, ne_eqb}
use Rattle.text_lines.proofs.Pieces.{puts, puts_none}
use Rattle.perch_vcd.specs.Text.{time_on}
use Rattle.perch_vcd.proofs.time_on.Goals as goal

pub returns-then-told-time : goal.returns-then-told-time
unfolding time_on
returns-then-told-time c = let a = c.args in rw (eq-eqb a.told a.time c.if-told-time.true) puts_none

pub returns : goal.returns
unfolding time_on
returns c = let a = c.args in rw (ne_eqb a.told a.time c.if-told-time.false) (puts _ (c.put_time.ensures.value, c.put_time.ensures.out_after))

pub shape_of-out : goal.shape_of-out
shape_of-out c = omega (arith, c.out-1.given)
