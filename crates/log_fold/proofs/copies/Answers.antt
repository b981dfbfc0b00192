-- Straight through: the end of the run, the mark set, the copies that go into it; the laws are those of marks. Assumes nothing.
use Prim.Native.Nat.{◌+◌, ◌-◌}
use mathlib.Core.Path.{◌≡◌, sym, ap, ◌∙◌}
use native.Mathlib.Omega.{arith}
use Rattle.log_fold.specs.Moves.{copies_at, copies_in}
use Rattle.log_fold.proofs.MarkLaws.{run_in, copies_run, copies_in_lem, marked_set}
use Rattle.log_fold.proofs.copies.Goals as goal

pub marked_end-x-requires : goal.marked_end-x-requires
marked_end-x-requires c = (omega arith, c.requires.4.each c.args.p)

pub overflow_add-marks : goal.overflow_add-marks
overflow_add-marks c =
    let r = run_in c.args.log.now c.args.at (c.args.end - c.args.at) (omega arith) in
    omega (arith, c.marked_end-x.ensures, r.1)

pub overflow_sub-x : goal.overflow_sub-x
overflow_sub-x c =
    let r = run_in c.args.log.now c.args.at (c.args.end - c.args.at) (omega arith) in
    omega (arith, c.marked_end-x.ensures, r.0)

pub counted-requires : goal.counted-requires
counted-requires c =
    let r = run_in c.args.log.now c.args.at (c.args.end - c.args.at) (omega arith) in
    (omega (arith, c.marked_end-x.ensures, r.1), omega arith)

pub returns : goal.returns
returns c =
    let log = c.args.log.now in
    let at = c.args.at in
    let m = c.args.end - at in
    let x = c.marked_end-x.result in
    let e = c.marked_end-x.ensures in
    let r = run_in log at m (omega arith) in
    let z : at + m ≡ c.args.end = omega arith in
    let n = c.counted.ensures in record {
      value = (
        n ∙ (ap (λ i. copies_in (i - at) m) e ∙ (sym (copies_run log at m (omega arith) (omega arith)) ∙ ap (copies_at log at) z)),
        rw n (copies_in_lem (x - at) m at _ (omega (arith, e, r.0, r.1))),
      );
      marked = marked_set log at _ c.requires.4 c.args.p m x (omega arith) (omega (arith, e, r.1)) e;
    }
