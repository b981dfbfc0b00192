use Rattle.perch_salvage.proofs.VerbLaws.{finished, refuses, outcome_numbers}
use Rattle.perch_salvage.specs.Verb.{outcome_from}
use mathlib.Core.Path.{ap, sym, ◌∙◌}
use Rattle.perch_salvage.proofs.salvage.Goals as goal

pub returns-then-a-eq0 : goal.returns-then-a-eq0
returns-then-a-eq0 c =
    let w = c.salvage-a in
    let e = sym (finished w.result c.if-a-eq0.true) ∙ ap outcome_from w.ensures.value in record { value = e; outcome_is = outcome_numbers _ _ e; out_after = w.ensures.out_after; list_after = w.ensures.list_after }

pub returns : goal.returns
returns c =
    let w = c.salvage-a in
    let e = sym (refuses w.result c.if-a-eq0.false) ∙ ap outcome_from w.ensures.value in record { value = e; outcome_is = outcome_numbers _ _ e; out_after = w.ensures.out_after; list_after = w.ensures.list_after }
