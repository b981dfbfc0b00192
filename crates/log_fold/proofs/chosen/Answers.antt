use Prim.Native.Nat.{◌-◌, ◌<◌}
use mathlib.Core.Path.{sym, ◌∙◌}
use native.Mathlib.Omega.{arith}
use Rattle.log_fold.proofs.MoveLaws.{chosen_spent, Choosing, choosing_start, choosing_full, end_in, end_on, choosing_none, choosing_found, choosing_more}
use Rattle.log_fold.proofs.chosen.Goals as goal

pub returns-then-k-gt999998 : goal.returns-then-k-gt999998
returns-then-k-gt999998 c = record { value = c.plain.ensures ∙ sym (chosen_spent 16 _ _ _ _ _ c.if-k-gt999998.true); marked = c.requires.3 }

pub loop-p-init : goal.loop-p-init
loop-p-init c = (choosing_start _ _ _ _ (omega arith), c.requires.3)

pub shape_of-marks-then-n-e : goal.shape_of-marks-then-n-e
shape_of-marks-then-n-e c = let l = c.loop-p in l.invariant.1.size ∙ sym c.requires.3.size

pub returns-then-n-e : goal.returns-then-n-e
returns-then-n-e c =
    let l = c.loop-p in
    let r : Choosing _ _ _ _ l.e l.p = l.invariant.0 in
    let a = c.act_end-n in
    let z : l.p < 16 = omega arith in record { value = c.plain-then-n-e.ensures ∙ choosing_none _ _ _ _ (omega arith) _ _ r z a.result a.ensures c.if-n-e.true; marked = l.invariant.1 }

pub copies-c-requires : goal.copies-c-requires
copies-c-requires c =
    let l = c.loop-p in
    let r : Choosing _ _ _ _ l.e l.p = l.invariant.0 in
    let a = c.act_end-n in
    let z : l.p < 16 = omega arith in
    let g = end_in _ _ _ _ (omega arith) _ _ r z a.result a.ensures in
    (omega (arith, c.if-n-e.false, r.low, g.0, end_on _ _ _ _ (omega arith) _ _ r z a.result a.ensures), g.1, omega arith, z, l.invariant.1)

pub overflow_sub-n : goal.overflow_sub-n
overflow_sub-n c =
    let l = c.loop-p in
    let r : Choosing _ _ _ _ l.e l.p = l.invariant.0 in
    let a = c.act_end-n in
    let z : l.p < 16 = omega arith in
    let g = end_in _ _ _ _ (omega arith) _ _ r z a.result a.ensures in
    omega (arith, g.0)

pub suits-requires : goal.suits-requires
suits-requires c =
    let l = c.loop-p in
    let r : Choosing _ _ _ _ l.e l.p = l.invariant.0 in
    let a = c.act_end-n in
    let z : l.p < 16 = omega arith in
    let g = end_in _ _ _ _ (omega arith) _ _ r z a.result a.ensures in
    (omega arith, omega (arith, g.0, g.1))

pub looped-requires : goal.looped-requires
looped-requires c =
    let l = c.loop-p in
    let r : Choosing _ _ _ _ l.e l.p = l.invariant.0 in
    let a = c.act_end-n in
    let z : l.p < 16 = omega arith in
    let g = end_in _ _ _ _ (omega arith) _ _ r z a.result a.ensures in
    (g.0, omega (arith, c.copies-c.ensures.value.1))

pub shape_of-marks-then-suits : goal.shape_of-marks-then-suits
shape_of-marks-then-suits c = c.copies-c.ensures.marked.size ∙ sym c.requires.3.size

pub returns-then-suits : goal.returns-then-suits
returns-then-suits c =
    let l = c.loop-p in
    let r : Choosing _ _ _ _ l.e l.p = l.invariant.0 in
    let a = c.act_end-n in
    let z : l.p < 16 = omega arith in
    let n = c.copies-c in record { value = c.looped.ensures ∙ choosing_found _ _ _ _ (omega arith) _ _ r z a.result a.ensures c.if-n-e.false n.result n.ensures.value.0 (sym c.suits.ensures ∙ c.if-suits.true); marked = n.ensures.marked }

pub loop-p-preserved : goal.loop-p-preserved
loop-p-preserved c =
    let l = c.loop-p in
    let r : Choosing _ _ _ _ l.e l.p = l.invariant.0 in
    let a = c.act_end-n in
    let z : l.p < 16 = omega arith in
    let n = c.copies-c in
    (choosing_more _ _ _ _ (omega arith) _ _ r z a.result a.ensures c.if-n-e.false n.result n.ensures.value.0 (sym c.suits.ensures ∙ c.if-suits.false), n.ensures.marked)

pub shape_of-marks : goal.shape_of-marks
shape_of-marks c = let l = c.loop-p in l.invariant.1.size ∙ sym c.requires.3.size

pub returns : goal.returns
returns c =
    let l = c.loop-p in
    let r : Choosing _ _ _ _ l.e l.p = l.invariant.0 in record { value = c.plain-2.ensures ∙ choosing_full _ _ _ _ (omega arith) _ _ r (omega arith); marked = l.invariant.1 }
