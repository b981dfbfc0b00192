use Prim.Native.Nat.{ℕ, ◌+◌, ◌*◌, ◌/◌, ◌%◌}
use mathlib.Core.Path.{◌≡◌, sym, ap, ◌∙◌}
use native.Mathlib.Omega.{arith}
use Rattle.arith.specs.Iterate.{iterate}
use Rattle.arith.proofs.IterateLaws.{iterate_add}
use Rattle.chip_noise.specs.Shifter.{shifted_of}
use Rattle.chip_noise.proofs.ShifterLaws.{shifts_most}
use Rattle.leap_noise.proofs.shifted_few.Goals as goal

pub blocks-requires : goal.blocks-requires
blocks-requires c =
    let a = c.args in
    rw c.jump-x.ensures (shifts_most a.mode (a.k % 8) a.register (omega (arith, c.if-register-gt32767.false)))

pub returns : goal.returns
returns c =
    let a = c.args in
    let s = shifted_of a.mode in
    let e : a.k % 8 + 8 * (a.k / 8) ≡ a.k = omega arith in
    c.blocks-2.ensures
    ∙ ap (iterate s (8 * (a.k / 8))) c.jump-x.ensures
    ∙ sym (iterate_add s (a.k % 8) (8 * (a.k / 8)) a.register)
    ∙ ap (λ (m : ℕ). iterate s m a.register) e
