use borrow.Author.Tests.{eq-eqb, ne_eqb}
use mathlib.Core.Path.{◌≡◌, sym}
use Prim.Native.Nat.{◌%◌}
use native.Mathlib.Omega.{arith}
use lib.ListN.{length}
use Rattle.vgm_measure.specs.Measure.{gap_turns, rest_text}
use Rattle.vgm_measure.proofs.GapLaws.{gap_long}
use Rattle.vgm_measure.proofs.gap_length.Goals as goal

pub returns-then-left-eq0 : goal.returns-then-left-eq0
unfolding gap_turns rest_text
returns-then-left-eq0 c = let e = gap_long c.args.g in let z : length (rest_text (c.args.g % 1000000)) ≡ 0 = rw (eq-eqb _ _ c.if-left-eq0.true) in (omega arith, rw (eq-eqb _ _ c.if-left-eq0.true) (omega arith))

pub returns-else-left-eq0 : goal.returns-else-left-eq0
unfolding gap_turns rest_text
returns-else-left-eq0 c = let e = gap_long c.args.g in let l = c.line_length.ensures in let z : length (rest_text (c.args.g % 1000000)) ≡ c.line_length.result = rw (ne_eqb _ _ c.if-left-eq0.false) (sym l.0) in (omega arith, rw (ne_eqb _ _ c.if-left-eq0.false) (omega arith))
