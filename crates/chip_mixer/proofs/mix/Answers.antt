use mathlib.Core.Path.{sym, ap, ◌∙◌}
use Rattle.chip_mixer.specs.Parts.{triangle_weight, mixed_by}
use Rattle.chip_mixer.proofs.PartsLaws.{parts}
use Rattle.chip_mixer.proofs.mix.Goals as goal

pub returns : goal.returns
unfolding triangle_weight
returns c =
    let a = c.args in
    c.mix_by.ensures
    ∙ ap (mixed_by a.a a.b (triangle_weight a.t)) c.others_weight-others.ensures
    ∙ sym (parts a.a a.b a.t a.n a.d)
