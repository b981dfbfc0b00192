use native.Mathlib.Omega.{arith}
use Rattle.text_lines.proofs.Pieces.{puts, puts_then}
use Rattle.vcd_text.proofs.DigitLaws.{short_time, long_time}
use Rattle.vcd_text.proofs.long_decimal.Goals as goal

pub returns-then-n-lt10000000000 : goal.returns-then-n-lt10000000000
returns-then-n-lt10000000000 c = rw (short_time c.args.n c.if-n-lt10000000000.true) (puts _ (c.decimal.ensures.value, c.decimal.ensures.out_after))

pub returns : goal.returns
returns c =
    rw (long_time c.args.n c.if-n-lt10000000000.false) (puts_then _ _ (puts _ (c.decimal-a.ensures.value, c.decimal-a.ensures.out_after)) (puts _ (c.decimal-2.ensures.value, c.decimal-2.ensures.out_after)))

pub shape_of-out-then-n-lt10000000000 : goal.shape_of-out-then-n-lt10000000000
shape_of-out-then-n-lt10000000000 c = omega (arith, c.out-1.given)

pub shape_of-out : goal.shape_of-out
shape_of-out c = omega (arith, c.out-3-1.given, c.out-2-1.given)
