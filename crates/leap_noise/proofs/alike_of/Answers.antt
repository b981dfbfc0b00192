use Prim.Native.Nat.{◌+◌, ◌/◌, ◌%◌}
use mathlib.Core.Path.{sym, ◌∙◌}
use native.Mathlib.Omega.{arith}
use Rattle.leap_noise.proofs.AheadLaws.{alike_zeros, zeros_capped}
use Rattle.leap_noise.proofs.alike_of.Goals as goal

pub overflow_cast-result : goal.overflow_cast-result
overflow_cast-result c = omega (arith, c.min.ensures)

pub returns : goal.returns
returns c =
    let r = c.args.register in
    c.min.ensures ∙ zeros_capped 14 2 (r / 2 + r % 2) ∙ sym (alike_zeros 14 r)
