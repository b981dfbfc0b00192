use Prim.Native.Nat.{◌/◌}
use native.Mathlib.Omega.{arith}
use Rattle.play_levels.proofs.DigitLaws.{high_size, decimal_some}
use Rattle.play_levels.proofs.high_of.Goals as goal

pub digits_word-word-requires : goal.digits_word-word-requires
digits_word-word-requires c =
    let n = c.args.time / 10000 in
    let e = c.width-size.ensures in
    (e.upper_bound.1, omega (arith, c.requires), omega (arith, e.value, decimal_some n), omega (arith, e.value, high_size n (omega (arith, c.requires))))

pub returns : goal.returns
returns c = rw (c.digits_word-word.ensures, c.width-size.ensures.value)
