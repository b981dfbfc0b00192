use native.Mathlib.Omega.{arith}
use Prim.Native.Nat.{◌-◌, ◌*◌, ◌≤◌}
use lib.ListN.{get_or}
use borrow.Author.Tests.{eq-eqb, ne_eqb}
use Rattle.play_step.proofs.last_level.Goals as goal

pub returns-then-n-eq0 : goal.returns-then-n-eq0
returns-then-n-eq0 c = rw (eq-eqb _ _ c.if-n-eq0.true)

pub overflow_cast-result : goal.overflow_cast-result
overflow_cast-result c = let a = c.args in let p : get_or a.words.now (2 * a.n - 1) 0 ≤ 65535 = c.requires.n_bound (omega arith) in omega arith

pub returns : goal.returns
returns c = rw (ne_eqb _ _ c.if-n-eq0.false)
