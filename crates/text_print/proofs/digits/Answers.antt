use Prim.Native.Nat.{◌-◌}
use mathlib.Core.Path.{refl, ap, ◌∙◌}
use native.Mathlib.Omega.{arith}
use lib.ListN.{length, length-set}
use lib.Seq.{length-sets}
use Rattle.text_print.specs.Printed.{digits_in}
use Rattle.text_print.proofs.StoreLaws.{fill_pair}
use Rattle.text_print.proofs.digits.Goals as goal

pub loop-i-init : goal.loop-i-init
loop-i-init c = (omega arith, refl, refl)

pub overflow_sub-i : goal.overflow_sub-i
overflow_sub-i c = omega (arith, c.loop-i-test.true)

pub overflow_add-at : goal.overflow_add-at
overflow_add-at c = omega (arith, c.loop-i.invariant.0, c.requires, c.ranges)

pub pair-requires : goal.pair-requires
pair-requires c =
    let l = c.loop-i in
    omega (arith, l.invariant.0, l.invariant.1, c.loop-i-test.true, c.requires)

pub loop-i-smaller : goal.loop-i-smaller
loop-i-smaller c = omega (arith, c.loop-i-test.true)

pub loop-i-preserved : goal.loop-i-preserved
loop-i-preserved c =
    let l = c.loop-i in
    let a = c.args in
    let e = c.pair.ensures in (
      omega (arith, l.invariant.0),
      rw e (simp length-set l.invariant.1),
      rw e (fill_pair l.out a.at l.i (l.i - 2) l.left (omega (arith, c.loop-i-test.true))) ∙ l.invariant.2,
    )

pub single-requires : goal.single-requires
single-requires c =
    let l = c.loop-i in
    (omega (arith, l.invariant.0, l.invariant.1, c.requires), omega (arith, c.loop-i-test.false))

pub shape_of-out : goal.shape_of-out
shape_of-out c =
    let l = c.loop-i in
    let a = c.args in
    ap length c.single.ensures ∙ length-sets l.out a.at (digits_in l.i l.left) ∙ l.invariant.1

pub returns : goal.returns
returns c =
    let l = c.loop-i in
    c.single.ensures ∙ l.invariant.2
