use Prim.Native.Nat.{◌-◌}
use mathlib.Core.Path.{refl, ap, ◌∙◌}
use native.Mathlib.Omega.{arith}
use lib.ListN.{length}
use Rattle.log_salvage.proofs.WriteLaws.{printed_long}
use Rattle.log_salvage.proofs.BoundLaws.{bound_step}
use Rattle.log_salvage.proofs.LoopLaws.{come_start, come_end, line_end_is, line_on, line_in, come_step, bound_up}
use Rattle.log_salvage.proofs.lines.Goals as goal

pub loop-at-init : goal.loop-at-init
loop-at-init c = let p = c.requires in (p.1, p.0, refl, refl, λ o l k g i. come_start _ o l k _ _ _ _ g i)

pub slice_bounds-step-count : goal.slice_bounds-step-count
slice_bounds-step-count c = omega (arith, line_on c.args.log.now c.loop-at.at c.line_end-e.result c.loop-at-test.true c.line_end-e.ensures)

pub slice_bounds-step-start : goal.slice_bounds-step-start
slice_bounds-step-start c = omega (arith, line_on c.args.log.now c.loop-at.at c.line_end-e.result c.loop-at-test.true c.line_end-e.ensures)

pub slice_bounds-step-end : goal.slice_bounds-step-end
slice_bounds-step-end c = omega (arith, line_in c.args.log.now c.loop-at.at c.line_end-e.result c.loop-at-test.true c.line_end-e.ensures)

pub step-s-requires : goal.step-s-requires
step-s-requires c =
    let log = c.args.log.now in
    let l = c.loop-at in
    let e = c.line_end-e in
    let h = c.loop-at-test.true in
    (l.invariant.1, omega (arith, line_end_is log l.at e.result h e.ensures, line_in log l.at e.result h e.ensures, c.requires.2))

pub loop-at-smaller : goal.loop-at-smaller
loop-at-smaller c =
    let e = c.line_end-e in
    omega (arith, line_on c.args.log.now c.loop-at.at e.result c.loop-at-test.true e.ensures, line_in c.args.log.now c.loop-at.at e.result c.loop-at-test.true e.ensures)

pub loop-at-preserved : goal.loop-at-preserved
loop-at-preserved c =
    let log = c.args.log.now in
    let l = c.loop-at in
    let e = c.line_end-e in
    let h = c.loop-at-test.true in
    let s = c.step-s.ensures in
    let on = line_end_is log l.at e.result h e.ensures in
    let b = bound_step l.invariant.1 _ _ _ _ _ _ _ s (omega (arith, on, line_on log l.at e.result h e.ensures)) in (
      line_in log l.at e.result h e.ensures,
      rw on at b,
      ap length s.text ∙ (printed_long _ _ _ ∙ l.invariant.2),
      ap length s.words ∙ (printed_long _ _ _ ∙ l.invariant.3),
      λ o q k g i. come_step log l.at e.result h e.ensures (l.invariant.4 o q k g i) _ _ _ s,
    )

pub shape_of-out : goal.shape_of-out
shape_of-out c = c.loop-at.invariant.2

pub shape_of-list : goal.shape_of-list
shape_of-list c = c.loop-at.invariant.3

pub returns : goal.returns
returns c =
    let l = c.loop-at in
    let p = c.requires in record { bound = bound_up l.invariant.1 60000 (omega (arith, l.invariant.0, p.2)); by_index = λ o q k g i. come_end (l.invariant.4 o q k g i) c.loop-at-test.false }
