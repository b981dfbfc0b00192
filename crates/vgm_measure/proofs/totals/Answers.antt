use mathlib.Core.Path.{ap, ◌∙◌}
use Rattle.vgm_measure.specs.declared.Sum.{Sum}
use Rattle.vgm_measure.proofs.AnswerLaws.{tally_sum}
use Rattle.vgm_measure.proofs.totals.Goals as goal

pub returns : goal.returns
returns c =
    let a = c.args in
    ap (λ (s : Sum). s.tally) c.sum_of.ensures ∙ tally_sum a.pal a.stream.now
