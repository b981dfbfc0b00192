use Prim.Native.Nat.{◌/◌, ◌^◌, ◌≤◌}
use mathlib.Core.Path.{sym, ◌∙◌}
use lib.Bits.{bit_xor}
use lib.Pow.{pow_pos}
use native.Mathlib.Nat.{pow-le-pow_right}
use native.Mathlib.Omega.{arith}
use Rattle.chip_noise.proofs.ShifterLaws.{tap_low}
use Rattle.leap_noise.proofs.JumpLaws.{jump_steps, by_jump}
use Rattle.leap_noise.proofs.jump.Goals as goal

pub overflow_shr-fed : goal.overflow_shr-fed
overflow_shr-fed c = rw c.tap.ensures (tap_low c.args.mode)

pub overflow_sub-fed : goal.overflow_sub-fed
overflow_sub-fed c =
    let k = c.args.k in
    let top : 2 ^ k ≤ 256 = pow-le-pow_right {n = 2} (omega arith) {i = k} {j = 8} c.requires.1 in
    omega (arith, pow_pos k)

pub returns : goal.returns
returns c =
    let a = c.args in
    let p = c.requires in
    by_jump a.register (bit_xor a.register (a.register / 2 ^ c.tap.result)) a.k p.1 p.0
    ∙ rw c.tap.ensures (sym (jump_steps a.mode a.k a.register p.1 p.0))
