use mathlib.Core.Path.{◌≡◌, sym, ap, ◌∙◌}
use Prim.Native.Nat.{◌-◌}
use native.Mathlib.Omega.{arith}
use lib.ListN.{length}
use Rattle.vgm_measure.specs.Measure.{sum_from}
use Rattle.vgm_stream.proofs.StreamLaws.{from_end}
use Rattle.vgm_measure.proofs.CountLaws.{count_starts, sum_stops, sum_goes}
use Rattle.vgm_measure.proofs.sum_of.Goals as goal

pub loop-i-init : goal.loop-i-init
loop-i-init c = (record { samples = omega arith; clock = omega arith; turns = omega arith; length = omega arith }, count_starts c.args.pal c.head_length.result c.head_length.ensures.0 c.args.stream.now)

pub stopped-requires : goal.stopped-requires
stopped-requires c = c.loop-i.invariant.0

pub returns-then-stops : goal.returns-then-stops
returns-then-stops c = sum_stops c.args.pal c.loop-i.k c.loop-i.w c.loop-i.i c.args.stream.now (omega arith) c.step_of-s.result c.step_of-s.ensures c.loop-i.invariant.1 (sym c.stops.ensures ∙ c.if-stops.true) c.stopped.result c.stopped.ensures

pub count_step-k-requires : goal.count_step-k-requires
count_step-k-requires c = c.loop-i.invariant.0

pub loop-i-preserved : goal.loop-i-preserved
loop-i-preserved c = (c.count_step-k.ensures.1, sum_goes c.args.pal c.loop-i.k c.loop-i.w c.loop-i.i c.args.stream.now (omega arith) c.step_of-s.result c.step_of-s.ensures c.loop-i.invariant.1 (sym c.stops.ensures ∙ c.if-stops.false) c.count_step-k.result c.count_step-k.ensures.0 c.awaits-w.result c.awaits-w.ensures)

pub returns : goal.returns
unfolding sum_from
returns c =
    let a = c.args in
    let l = c.loop-i in
    let e : l.i ≡ length a.stream.now = omega arith in
    c.refused.ensures ∙ rw (← e) (ap (sum_from a.pal l.k) (sym (from_end l.w l.i a.stream.now (omega arith))) ∙ l.invariant.1)
