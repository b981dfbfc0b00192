use mathlib.Core.Path.{◌∙◌}
use Rattle.recording.proofs.CheckLaws.{totals_done, totals_heavy, totals_fault}
use Rattle.recording.proofs.check_totals.Goals as goal

pub returns-then-number-eq0 : goal.returns-then-number-eq0
returns-then-number-eq0 c = let a = c.args in totals_done a.pal a.at a.t c.if-number-eq0.true

pub returns-then-number-eq9 : goal.returns-then-number-eq9
returns-then-number-eq9 c = let a = c.args in c.refused.ensures ∙ totals_heavy a.pal a.at a.t c.if-number-eq9.true

pub returns : goal.returns
returns c = let a = c.args in c.refused-2.ensures ∙ totals_fault a.pal a.at a.t c.if-number-eq0.false c.if-number-eq9.false
