use native.Mathlib.Omega.{arith}
use borrow.Author.Tests.{eq-eqb, ne_eqb}
use Rattle.text_lines.proofs.Pieces.{puts, puts_none}
use Rattle.perch_vcd.specs.Text.{lane_line}
use Rattle.perch_vcd.proofs.lane_line.Goals as goal

pub returns-then-every : goal.returns-then-every
unfolding lane_line
returns-then-every c = rw c.if-every.true (puts _ (c.put_value.ensures.value, c.put_value.ensures.out_after))

pub returns-then-before-after : goal.returns-then-before-after
unfolding lane_line
returns-then-before-after c = let a = c.args in rw (c.if-every.false, eq-eqb a.before a.after c.if-before-after.true) puts_none

pub returns : goal.returns
unfolding lane_line
returns c = let a = c.args in rw (c.if-every.false, ne_eqb a.before a.after c.if-before-after.false) (puts _ (c.put_value-2.ensures.value, c.put_value-2.ensures.out_after))

pub shape_of-out-then-every : goal.shape_of-out-then-every
shape_of-out-then-every c = omega (arith, c.out-1.given)

pub shape_of-out : goal.shape_of-out
shape_of-out c = omega (arith, c.out-2-1.given)
