use mathlib.Core.Bool.{true, false}
use native.Mathlib.Omega.{arith}
use Rattle.vgm_measure.proofs.CountLaws.{head_long}
use Rattle.vgm_measure.proofs.head_length.Goals as goal

pub returns-then-pal : goal.returns-then-pal
returns-then-pal c = rw c.if-pal.true (head_long true, omega arith)

pub returns-else-pal : goal.returns-else-pal
returns-else-pal c = rw c.if-pal.false (head_long false, omega arith)
