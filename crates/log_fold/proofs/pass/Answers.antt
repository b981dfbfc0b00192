use lib.Seq.{length-take-le}
use mathlib.Core.Path.{sym, ◌∙◌}
use Prim.Native.Nat.{◌-◌, ◌≤◌}
use native.Mathlib.Omega.{arith}
use lib.ListN.{length}
use Rattle.log_passing.proofs.Passing.{clear}
use Rattle.log_fold.proofs.MarkLaws.{marked_on}
use Rattle.log_fold.proofs.PassLaws.{Going, start_in_lem, head_long, going_start, all_stored, going_end, stepped, step_room, going_on}
use Rattle.log_fold.proofs.pass.Goals as goal

pub slice_bounds-fixed-end : goal.slice_bounds-fixed-end
slice_bounds-fixed-end c =
    let e : c.start-first.result ≤ length c.args.log.now = rw c.start-first.ensures (start_in_lem _ c.requires.0).1 in
    sym (length-take-le _ _ e)

pub loop-at-init : goal.loop-at-init
loop-at-init c =
    let f = c.fixed-to in
    let s = c.start-first.ensures in
    (rw c.requires.1 (going_start _ c.requires.0 c.args.out.now c.requires.2 _ f.result f.new.out s f.ensures.value f.ensures.out_after), rw s c.requires.3)

pub move_at-m-requires : goal.move_at-m-requires
move_at-m-requires c =
    let l = c.loop-at in
    let g : Going _ _ l.out l.at l.to l.k = l.invariant.0 in
    (g.inside, (clear _ g.passes).short, g.within, l.invariant.1)

pub slice_bounds-put-count : goal.slice_bounds-put-count
slice_bounds-put-count c =
    let l = c.loop-at in
    let g : Going _ _ l.out l.at l.to l.k = l.invariant.0 in
    let m = c.move_at-m in
    let s = stepped g (omega arith) m.result m.ensures.value in
    omega (arith, s.low)

pub slice_bounds-put-start : goal.slice_bounds-put-start
slice_bounds-put-start c =
    let l = c.loop-at in
    let g : Going _ _ l.out l.at l.to l.k = l.invariant.0 in
    let m = c.move_at-m in
    let s = stepped g (omega arith) m.result m.ensures.value in
    omega (arith, s.low, s.high)

pub slice_bounds-put-end : goal.slice_bounds-put-end
slice_bounds-put-end c =
    let l = c.loop-at in
    let g : Going _ _ l.out l.at l.to l.k = l.invariant.0 in
    let m = c.move_at-m in
    let s = stepped g (omega arith) m.result m.ensures.value in
    omega (arith, s.low, s.high)

pub put-to-requires : goal.put-to-requires
put-to-requires c =
    let l = c.loop-at in
    let g : Going _ _ l.out l.at l.to l.k = l.invariant.0 in
    let m = c.move_at-m in
    step_room g (omega arith) m.result m.ensures.value

pub overflow_add-k : goal.overflow_add-k
overflow_add-k c =
    let l = c.loop-at in
    let g : Going _ _ l.out l.at l.to l.k = l.invariant.0 in
    let m = c.move_at-m in
    let s = stepped g (omega arith) m.result m.ensures.value in
    omega (arith, s.within)

pub loop-at-smaller : goal.loop-at-smaller
loop-at-smaller c =
    let l = c.loop-at in
    let g : Going _ _ l.out l.at l.to l.k = l.invariant.0 in
    let m = c.move_at-m in
    let s = stepped g (omega arith) m.result m.ensures.value in
    omega (arith, s.on, s.inside)

pub loop-at-preserved : goal.loop-at-preserved
loop-at-preserved c =
    let l = c.loop-at in
    let g : Going _ _ l.out l.at l.to l.k = l.invariant.0 in
    let m = c.move_at-m in
    let s = stepped g (omega arith) m.result m.ensures.value in
    let w = c.put-to in
    (rw c.from-k.ensures (going_on g (omega arith) m.result m.ensures.value w.result w.new.out w.ensures), marked_on _ (omega (arith, s.on)) m.ensures.marked)

pub shape_of-out : goal.shape_of-out
shape_of-out c =
    let l = c.loop-at in
    let g : Going _ _ l.out l.at l.to l.k = l.invariant.0 in
    let f = c.fixed-to in
    g.long ∙ head_long _ c.requires.0 c.args.out.now c.requires.2 _ f.result f.new.out c.start-first.ensures f.ensures.value f.ensures.out_after

pub shape_of-marks : goal.shape_of-marks
shape_of-marks c = let l = c.loop-at in l.invariant.1.size ∙ sym c.requires.3.size

pub returns : goal.returns
returns c =
    let l = c.loop-at in
    let g : Going _ _ l.out l.at l.to l.k = l.invariant.0 in
    let f = c.fixed-to in
    let e = going_end g (omega arith) in
    record {
      place = e.0 ∙ omega arith;
      bytes = e.1 ∙ all_stored _ c.requires.0 c.args.out.now c.requires.2 _ f.result f.new.out c.start-first.ensures f.ensures.value f.ensures.out_after;
    }
