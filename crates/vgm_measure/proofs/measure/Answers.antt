use mathlib.Core.Path.{ap, ◌∙◌}
use Rattle.vgm_measure.specs.Measure.{fitted}
use Rattle.vgm_measure.proofs.AnswerLaws.{fitted_import}
use Rattle.vgm_measure.proofs.measure.Goals as goal

pub returns : goal.returns
returns c =
    let a = c.args in
    c.fit.ensures ∙ (ap (fitted a.room) c.sum_of.ensures ∙ fitted_import a.pal a.stream.now a.room)
