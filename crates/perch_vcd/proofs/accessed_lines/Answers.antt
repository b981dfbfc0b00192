use native.Mathlib.Omega.{arith}
use Rattle.text_lines.proofs.Pieces.{puts_then}
use Rattle.perch_vcd.specs.Text.{event_text}
use Rattle.perch_vcd.proofs.accessed_lines.Goals as goal

pub returns : goal.returns
unfolding event_text
returns c = puts_then _ _ c.point_lines-a.ensures (puts_then _ _ c.bus_lines-c.ensures c.seen_lines.ensures)

pub shape_of-out : goal.shape_of-out
shape_of-out c = omega (arith, c.out-3-1.given, c.out-2-1.given, c.out-1.given)
