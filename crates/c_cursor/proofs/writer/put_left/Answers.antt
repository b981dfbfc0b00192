use Prim.Native.Nat.{◌+◌}
use mathlib.Core.Path.{refl, sym, ◌∙◌}
use native.Mathlib.Nat.{add-zero}
use native.Mathlib.Omega.{arith}
use Rattle.c_bytes.proofs.WideLaws.{wides_step, wides_done}
use Rattle.c_cursor.proofs.writer.put_left.Goals as goal

pub loop-k-init : goal.loop-k-init
loop-k-init c = (omega arith, refl, rw (add-zero))

pub loop-k-preserved : goal.loop-k-preserved
loop-k-preserved c =
    let l = c.loop-k in
    let a = c.args in
    let less = c.loop-k-test.true in (
      omega arith,
      c.b-1.given ∙ l.invariant.1,
      wides_step 1 l.b _ a.left.now (a.at + l.k) (a.at + (l.k + 1)) l.k less (omega arith) (rw c.from.ensures at c.put_wide.ensures) ∙ l.invariant.2,
    )

pub shape_of-b : goal.shape_of-b
shape_of-b c = c.loop-k.invariant.1

pub returns : goal.returns
returns c =
    let l = c.loop-k in
    let a = c.args in
    sym (wides_done 1 l.b a.left.now (a.at + l.k) l.k c.loop-k-test.false) ∙ l.invariant.2
