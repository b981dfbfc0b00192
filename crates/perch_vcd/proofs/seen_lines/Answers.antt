use borrow.Author.Rules.{Fits-under}
use native.Mathlib.Omega.{arith}
use Rattle.text_lines.proofs.Pieces.{puts_then}
use Rattle.perch_vcd.specs.Text.{seen_lines}
use Rattle.perch_vcd.proofs.seen_lines.Goals as goal

pub shape_of-out : goal.shape_of-out
shape_of-out c =
    omega (arith, c.out-9-1.given, c.out-8-1.given, c.out-7-1.given, c.out-6-1.given, c.out-5-1.given, c.out-4-1.given, c.out-3-1.given, c.out-2-1.given, c.out-1.given)

pub returns : goal.returns
unfolding seen_lines
returns c =
    puts_then _ _ c.lane_line-c.ensures
    (puts_then _ _ c.lane_line-d.ensures
    (puts_then _ _ c.lane_line-e.ensures
    (puts_then _ _ c.lane_line-f.ensures
    (puts_then _ _ c.lane_line-g.ensures
    (puts_then _ _ c.lane_line-h.ensures
    (puts_then _ _ c.lane_line-i.ensures
    (puts_then _ _ c.lane_line-j.ensures
    c.lane_line.ensures)))))))

pub overflow_cast-a : goal.overflow_cast-a
overflow_cast-a c = Fits-under _ _ _ c.struct_known-1.given.0.fits tt

pub overflow_cast-b : goal.overflow_cast-b
overflow_cast-b c = Fits-under _ _ _ c.struct_known-2-1.given.0.fits tt

pub overflow_cast-a-2 : goal.overflow_cast-a-2
overflow_cast-a-2 c = Fits-under _ _ _ c.struct_known-3-1.given.1.0.fits tt

pub overflow_cast-b-2 : goal.overflow_cast-b-2
overflow_cast-b-2 c = Fits-under _ _ _ c.struct_known-4-1.given.1.0.fits tt

pub overflow_cast-a-3 : goal.overflow_cast-a-3
overflow_cast-a-3 c = Fits-under _ _ _ c.struct_known-5-1.given.1.1.0.fits tt

pub overflow_cast-b-3 : goal.overflow_cast-b-3
overflow_cast-b-3 c = Fits-under _ _ _ c.struct_known-6-1.given.1.1.0.fits tt

pub overflow_cast-a-4 : goal.overflow_cast-a-4
overflow_cast-a-4 c = Fits-under _ _ _ c.struct_known-7-1.given.1.1.1.0.fits tt

pub overflow_cast-b-4 : goal.overflow_cast-b-4
overflow_cast-b-4 c = Fits-under _ _ _ c.struct_known-8-1.given.1.1.1.0.fits tt

pub overflow_cast-a-5 : goal.overflow_cast-a-5
overflow_cast-a-5 c = Fits-under _ _ _ c.struct_known-9-1.given.1.1.1.1.0.fits tt

pub overflow_cast-b-5 : goal.overflow_cast-b-5
overflow_cast-b-5 c = Fits-under _ _ _ c.struct_known-10-1.given.1.1.1.1.0.fits tt

pub overflow_cast-a-6 : goal.overflow_cast-a-6
overflow_cast-a-6 c = Fits-under _ _ _ c.struct_known-11-1.given.1.1.1.1.1.0.fits tt

pub overflow_cast-b-6 : goal.overflow_cast-b-6
overflow_cast-b-6 c = Fits-under _ _ _ c.struct_known-12-1.given.1.1.1.1.1.0.fits tt

pub overflow_cast-a-7 : goal.overflow_cast-a-7
overflow_cast-a-7 c = Fits-under _ _ _ c.struct_known-13-1.given.1.1.1.1.1.1.0.fits tt

pub overflow_cast-b-7 : goal.overflow_cast-b-7
overflow_cast-b-7 c = Fits-under _ _ _ c.struct_known-14-1.given.1.1.1.1.1.1.0.fits tt

pub overflow_cast-a-8 : goal.overflow_cast-a-8
overflow_cast-a-8 c = Fits-under _ _ _ c.struct_known-15-1.given.1.1.1.1.1.1.1.0.fits tt

pub overflow_cast-b-8 : goal.overflow_cast-b-8
overflow_cast-b-8 c = Fits-under _ _ _ c.struct_known-16-1.given.1.1.1.1.1.1.1.0.fits tt

pub overflow_cast-a-9 : goal.overflow_cast-a-9
overflow_cast-a-9 c = Fits-under _ _ _ c.struct_known-17-1.given.1.1.1.1.1.1.1.1.0.fits tt

pub overflow_cast-b-9 : goal.overflow_cast-b-9
overflow_cast-b-9 c = Fits-under _ _ _ c.struct_known-18-1.given.1.1.1.1.1.1.1.1.0.fits tt
