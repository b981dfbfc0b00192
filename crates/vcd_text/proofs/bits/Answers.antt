use Prim.Native.Nat.{◌-◌}
use mathlib.Core.Path.{sym, ◌∙◌}
use native.Mathlib.Omega.{arith}
use Rattle.vcd_text.proofs.BitLaws.{bit_step, bit_end}
use Rattle.vcd_text.proofs.bits.Goals as goal

pub loop-i-preserved : goal.loop-i-preserved
loop-i-preserved c =
    let l = c.loop-i in
    let a = c.args in
    bit_step l.out a.at l.i (l.i - 1) l.left _ (omega (arith, c.loop-i-test.true)) c.last_bit.ensures ∙ l.invariant

pub returns : goal.returns
returns c =
    let l = c.loop-i in
    let a = c.args in
    sym (bit_end l.out a.at l.i l.left (omega (arith, c.loop-i-test.false))) ∙ l.invariant
