use Prim.Native.Nat.{ℕ, ◌+◌, ◌-◌}
use mathlib.Core.Path.{refl, sym, ap, ◌∙◌}
use mathlib.Core.List.{List}
use native.Mathlib.Omega.{arith}
use lib.Seq.{sets}
use Rattle.c_bytes.specs.Fields.{high}
use Rattle.c_bytes.specs.Numbers.{wide_bytes}
use Rattle.c_bytes.proofs.WideLaws.{wide_step, wide_done}
use Rattle.c_bytes.proofs.number.put_wide.Goals as goal

pub loop-i-preserved : goal.loop-i-preserved
loop-i-preserved c =
    let l = c.loop-i in
    let a = c.args in
    ap (λ (b : List ℕ). sets b (a.at + (l.i + 1)) (wide_bytes (a.n - (l.i + 1)) (high l.rest))) c.put_after.ensures
    ∙ wide_step l.b a.at l.i a.n l.rest _ c.loop-i-test.true refl
    ∙ l.invariant

pub returns : goal.returns
returns c =
    let l = c.loop-i in
    let a = c.args in
    sym (wide_done l.b a.at l.i a.n l.rest (omega arith)) ∙ l.invariant
