-- Four numbers below 100, and their tens: the law `eight_digits`. Assumes nothing.
use native.Mathlib.Omega.{arith}
use Rattle.play_levels.proofs.DigitLaws.{eight_pairs, eight_tens, eight_digits}
use Rattle.play_levels.proofs.eight_digits.Goals as goal

pub tens-t-requires : goal.tens-t-requires
tens-t-requires c =
    eight_pairs c.args.a c.args.b _ _ c.requires.0 c.requires.1 c.pairs.ensures c.pairs-2.ensures

pub overflow_mul-result-2 : goal.overflow_mul-result-2
overflow_mul-result-2 c =
    omega (arith, eight_tens c.args.a c.args.b _ _ c.requires.0 c.requires.1 c.pairs.ensures c.pairs-2.ensures _ c.tens-t.ensures)

pub overflow_sub-result : goal.overflow_sub-result
overflow_sub-result c =
    omega (arith, eight_digits c.args.a c.args.b _ _ c.requires.0 c.requires.1 c.pairs.ensures c.pairs-2.ensures _ c.tens-t.ensures)

pub returns : goal.returns
returns c =
    omega (arith, eight_digits c.args.a c.args.b _ _ c.requires.0 c.requires.1 c.pairs.ensures c.pairs-2.ensures _ c.tens-t.ensures)
