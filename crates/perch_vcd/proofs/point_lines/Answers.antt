use native.Mathlib.Omega.{arith}
use Rattle.text_lines.proofs.Pieces.{puts, puts_then}
use Rattle.perch_vcd.specs.Text.{point_lines}
use Rattle.perch_vcd.proofs.point_lines.Goals as goal

pub returns : goal.returns
unfolding point_lines
returns c = puts_then _ _ c.time_on-a.ensures (puts _ (c.put_value.ensures.value, c.put_value.ensures.out_after))

pub shape_of-out : goal.shape_of-out
shape_of-out c = omega (arith, c.out-2-1.given, c.out-1.given)
