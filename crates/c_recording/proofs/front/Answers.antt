use mathlib.Core.Path.{sym}
use native.Mathlib.Omega.{arith}
use lib.Seq.{take_all, length-take-le}
use Rattle.c_recording.proofs.front.Goals as goal

pub returns-then-b-lt88 : goal.returns-then-b-lt88
returns-then-b-lt88 c = sym (take_all 88 c.args.b.now (omega (arith, c.if-b-lt88.true)))

pub slice_bounds-result-end : goal.slice_bounds-result-end
slice_bounds-result-end c = sym (length-take-le 88 c.args.b.now (omega (arith, c.if-b-lt88.false)))
