use native.Mathlib.Omega.{arith}
use Rattle.vcd_text.proofs.bit_line.Goals as goal

pub returns : goal.returns
returns c = record { value = rw c.last_bit-bit.ensures at c.fixed.ensures.value; out_after = rw c.last_bit-bit.ensures at c.fixed.ensures.out_after }

pub shape_of-out : goal.shape_of-out
shape_of-out c = omega (arith, c.out-1.given)
