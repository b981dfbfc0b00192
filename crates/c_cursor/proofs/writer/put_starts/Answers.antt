use Prim.Native.Nat.{◌+◌, ◌*◌}
use mathlib.Core.Path.{refl, sym, ◌∙◌}
use native.Mathlib.Nat.{add-zero, mul-zero}
use native.Mathlib.Omega.{arith}
use Rattle.c_bytes.proofs.WideLaws.{wides_step, wides_done}
use Rattle.c_cursor.proofs.writer.put_starts.Goals as goal

pub loop-k-init : goal.loop-k-init
loop-k-init c = (omega arith, refl, rw (mul-zero, add-zero))

pub loop-k-preserved : goal.loop-k-preserved
loop-k-preserved c =
    let l = c.loop-k in
    let a = c.args in
    let less = c.loop-k-test.true in (
      omega arith,
      c.b-1.given ∙ l.invariant.1,
      wides_step 8 l.b _ a.starts.now (a.at + 8 * l.k) (a.at + 8 * (l.k + 1)) l.k less (omega arith) c.put_wide.ensures ∙ l.invariant.2,
    )

pub shape_of-b : goal.shape_of-b
shape_of-b c = c.loop-k.invariant.1

pub returns : goal.returns
returns c =
    let l = c.loop-k in
    let a = c.args in
    sym (wides_done 8 l.b a.starts.now (a.at + 8 * l.k) l.k c.loop-k-test.false) ∙ l.invariant.2
