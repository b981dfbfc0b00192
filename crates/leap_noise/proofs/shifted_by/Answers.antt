use Prim.Native.Nat.{ℕ, ◌+◌, ◌*◌, ◌/◌, ◌%◌}
use mathlib.Core.Path.{◌≡◌, sym, ap, ◌∙◌}
use mathlib.Core.Bool.{false}
use native.Mathlib.Omega.{arith}
use Rattle.arith.specs.Iterate.{iterate}
use Rattle.arith.proofs.IterateLaws.{iterate_add}
use Rattle.chip_noise.specs.Shifter.{shifted_of}
use Rattle.chip_noise.proofs.ShifterLaws.{shifts_most}
use Rattle.leap_noise.proofs.RoundLaws.{round_rest}
use Rattle.leap_noise.proofs.shifted_by.Goals as goal

pub returns-then-mode : goal.returns-then-mode
returns-then-mode c =
    rw (c.if-mode.true, c.shifted_few.ensures)
    (round_rest c.args.k c.args.register (omega (arith, c.if-register-gt32767.false)))

pub leaps-requires : goal.leaps-requires
leaps-requires c =
    let a = c.args in
    rw c.shifted_few-x.ensures (shifts_most false (a.k % 256) a.register (omega (arith, c.if-register-gt32767.false)))

pub returns : goal.returns
returns c =
    let a = c.args in
    let s = shifted_of false in
    let e : a.k % 256 + 256 * (a.k / 256) ≡ a.k = omega arith in
    rw c.if-mode.false
    (c.leaps.ensures
    ∙ ap (iterate s (256 * (a.k / 256))) c.shifted_few-x.ensures
    ∙ sym (iterate_add s (a.k % 256) (256 * (a.k / 256)) a.register)
    ∙ ap (λ (m : ℕ). iterate s m a.register) e)
