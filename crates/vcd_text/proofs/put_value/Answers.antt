use native.Mathlib.Omega.{arith}
use borrow.Author.Tests.{eq-eqb, ne_eqb}
use Rattle.vcd_text.specs.Lines.{value_line}
use Rattle.vcd_text.proofs.put_value.Goals as goal

pub returns-then-width-eq1 : goal.returns-then-width-eq1
unfolding value_line
returns-then-width-eq1 c = rw (eq-eqb c.args.width 1 c.if-width-eq1.true) (record { value = c.bit_line.ensures.value; out_after = c.bit_line.ensures.out_after })

pub returns : goal.returns
unfolding value_line
returns c = rw (ne_eqb c.args.width 1 c.if-width-eq1.false) (record { value = c.put_wide.ensures.value; out_after = c.put_wide.ensures.out_after })

pub shape_of-out-then-width-eq1 : goal.shape_of-out-then-width-eq1
shape_of-out-then-width-eq1 c = omega (arith, c.out-1.given)

pub shape_of-out : goal.shape_of-out
shape_of-out c = omega (arith, c.out-2-1.given)
