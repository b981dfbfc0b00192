use Prim.Native.Nat.{◌-◌}
use mathlib.Core.Path.{refl, sym, ◌∙◌}
use native.Mathlib.Omega.{arith}
use Rattle.log_mend.proofs.NestLaws.{nest_on, nest_end, nest_low, line_on, line_in}
use Rattle.log_mend.proofs.nested.Goals as goal

pub loop-at-init : goal.loop-at-init
loop-at-init c = (omega arith, omega arith, refl)

pub slice_bounds-line_of-count : goal.slice_bounds-line_of-count
slice_bounds-line_of-count c =
    let log = c.args.log.now in
    omega (arith, line_on log c.loop-at.at c.line_end-e.result c.loop-at-test.true c.line_end-e.ensures)

pub slice_bounds-line_of-start : goal.slice_bounds-line_of-start
slice_bounds-line_of-start c =
    let log = c.args.log.now in
    omega (arith, line_on log c.loop-at.at c.line_end-e.result c.loop-at-test.true c.line_end-e.ensures)

pub slice_bounds-line_of-end : goal.slice_bounds-line_of-end
slice_bounds-line_of-end c =
    let log = c.args.log.now in
    omega (arith, line_in log c.loop-at.at c.line_end-e.result c.loop-at-test.true c.line_end-e.ensures)

pub loop-at-smaller : goal.loop-at-smaller
loop-at-smaller c =
    let log = c.args.log.now in
    let l = c.loop-at in
    let e = c.line_end-e in
    let h = c.loop-at-test.true in
    omega (arith, line_on log l.at e.result h e.ensures, line_in log l.at e.result h e.ensures)

pub loop-at-preserved : goal.loop-at-preserved
loop-at-preserved c =
    let log = c.args.log.now in
    let want = c.args.want in
    let l = c.loop-at in
    let e = c.line_end-e in
    let h = c.loop-at-test.true in
    let s = c.nest_line-s.ensures in
    let d = nest_low want l.at c.line_of.result l.s in (
      line_in log l.at e.result h e.ensures,
      rw s (omega (arith, d, l.invariant.1, line_on log l.at e.result h e.ensures)),
      l.invariant.2 ∙ (nest_on log l.at e.result h e.ensures want l.s ∙ rw (s, c.line_of.ensures) refl),
    )

pub returns : goal.returns
returns c =
    let l = c.loop-at in
    let a = c.args in
    sym (l.invariant.2 ∙ nest_end a.log.now l.at a.want l.s c.loop-at-test.false)
