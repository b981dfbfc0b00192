use native.Mathlib.Omega.{arith}
use borrow.Author.Rules.{Fits-under}
use Rattle.text_lines.proofs.Pieces.{puts, puts_then}
use Rattle.perch_vcd.specs.Text.{bus_lines}
use Rattle.perch_vcd.proofs.bus_lines.Goals as goal

pub returns : goal.returns
unfolding bus_lines
returns c =
    puts_then _ _ (puts _ (c.put_value-c.ensures.value, c.put_value-c.ensures.out_after)) (puts_then _ _ (puts _ (c.put_value-d.ensures.value, c.put_value-d.ensures.out_after)) (puts _ (c.put_value.ensures.value, c.put_value.ensures.out_after)))

pub overflow_cast-b : goal.overflow_cast-b
overflow_cast-b c = Fits-under _ _ _ c.struct_known-1.given.0.fits tt

pub overflow_cast-b-2 : goal.overflow_cast-b-2
overflow_cast-b-2 c = Fits-under _ _ _ c.struct_known-2-1.given.1.0.fits tt

pub overflow_cast-b-3 : goal.overflow_cast-b-3
overflow_cast-b-3 c = Fits-under _ _ _ c.struct_known-3-1.given.1.1.0.fits tt

pub shape_of-out : goal.shape_of-out
shape_of-out c = omega (arith, c.out-3-1.given, c.out-2-1.given, c.out-1.given)
