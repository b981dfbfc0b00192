use mathlib.Core.Path.{refl, sym, ◌∙◌}
use Prim.Native.Nat.{◌+◌}
use native.Mathlib.Omega.{arith}
use lib.ListN.{length}
use lib.Seq.{sets}
use Rattle.vgm_stream.specs.Stream.{stream_of}
use Rattle.vgm_import.specs.Write.{tail_of}
use Rattle.vgm_import.proofs.WriteLaws.{write_starts, write_penning, write_goes, write_ending, write_ends, never_out}
use Rattle.vgm_import.proofs.write_rest.Goals as goal

pub loop-b-init : goal.loop-b-init
loop-b-init c = (refl, write_starts c.args.pal c.args.stream.now c.args.out.now c.args.first c.requires)

pub pen_end-requires : goal.pen_end-requires
pen_end-requires c = write_ending c.args.pal (sets c.args.out.now c.args.first (tail_of c.args.pal (stream_of c.args.stream.now))) (c.args.first + length (tail_of c.args.pal (stream_of c.args.stream.now))) c.loop-b.p c.loop-b.w c.loop-b.b-index c.args.stream.now c.loop-b.out (omega arith) c.step_of-s.result c.step_of-s.ensures c.loop-b.invariant.1 (sym c.stops.ensures ∙ c.if-stops.true)

pub returns-then-stops : goal.returns-then-stops
returns-then-stops c = write_ends c.args.pal (sets c.args.out.now c.args.first (tail_of c.args.pal (stream_of c.args.stream.now))) (c.args.first + length (tail_of c.args.pal (stream_of c.args.stream.now))) c.loop-b.p c.loop-b.w c.loop-b.b-index c.args.stream.now c.loop-b.out (omega arith) c.step_of-s.result c.step_of-s.ensures c.loop-b.invariant.1 (sym c.stops.ensures ∙ c.if-stops.true) c.pen_end.new.out c.pen_end.ensures

pub pen_step-p-requires : goal.pen_step-p-requires
pen_step-p-requires c = write_penning c.args.pal (sets c.args.out.now c.args.first (tail_of c.args.pal (stream_of c.args.stream.now))) (c.args.first + length (tail_of c.args.pal (stream_of c.args.stream.now))) c.loop-b.p c.loop-b.w c.loop-b.b-index c.args.stream.now c.loop-b.out (omega arith) c.step_of-s.result c.step_of-s.ensures c.loop-b.invariant.1 (sym c.stops.ensures ∙ c.if-stops.false)

pub loop-b-preserved : goal.loop-b-preserved
loop-b-preserved c = let g = write_goes c.args.pal (sets c.args.out.now c.args.first (tail_of c.args.pal (stream_of c.args.stream.now))) (c.args.first + length (tail_of c.args.pal (stream_of c.args.stream.now))) c.loop-b.p c.loop-b.w c.loop-b.b-index c.args.stream.now c.loop-b.out (omega arith) c.step_of-s.result c.step_of-s.ensures c.loop-b.invariant.1 (sym c.stops.ensures ∙ c.if-stops.false) c.pen_step-p.new.out c.pen_step-p.result c.pen_step-p.ensures c.awaits-w.result c.awaits-w.ensures in (g.0 ∙ c.loop-b.invariant.0, g.1)

pub shape_of-out : goal.shape_of-out
shape_of-out c = c.loop-b.invariant.0

pub returns : goal.returns
returns c = absurd (never_out _ _ _ _ _ _ c.loop-b.w c.loop-b.b-index c.args.stream.now c.loop-b.out (omega arith) c.loop-b.invariant.1)
