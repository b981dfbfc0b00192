use Prim.Native.Nat.{◌+◌, ◌*◌, ◌/◌}
use native.Mathlib.Omega.{arith}
use lib.Pow.{shr_le}
use Rattle.play_levels.specs.Words.{word_of}
use Rattle.play_levels.proofs.DigitLaws.{level_digits}
use Rattle.play_levels.proofs.level_word.Goals as goal

pub overflow_mul-five : goal.overflow_mul-five
overflow_mul-five c = omega (arith, c.requires.four_value.1)

pub overflow_add-five-2 : goal.overflow_add-five-2
overflow_add-five-2 c = omega (arith, c.requires.four_value.1, c.requires.four_value.2)

pub overflow_add-five-3 : goal.overflow_add-five-3
overflow_add-five-3 c = omega (arith, c.requires.four_value.1, c.requires.four_value.2)

pub overflow_mul-result-2 : goal.overflow_mul-result-2
overflow_mul-result-2 c =
    let a = c.args in
    omega (arith, c.requires.four_value.1, c.requires.four_value.2, shr_le (48 + a.level / 10000 + 256 * a.four + 10995116277760) (8 * a.dropped))

pub overflow_add-result : goal.overflow_add-result
overflow_add-result c =
    let a = c.args in
    omega (arith, c.requires.four_value.1, c.requires.four_value.2, shr_le (48 + a.level / 10000 + 256 * a.four + 10995116277760) (8 * a.dropped))

pub returns : goal.returns
unfolding word_of
returns c =
    let a = c.args in
    let e = level_digits a.level a.four a.dropped c.requires.four_value.0 c.requires.four_value.2 c.requires.level_value.0 c.requires.level_value.1 in
    rw c.from-first.ensures (omega (arith, e))
