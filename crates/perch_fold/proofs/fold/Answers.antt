use mathlib.Core.Path.{ap, sym, ◌∙◌}
use Rattle.perch_fold.specs.Verb.{outcome_from}
use Rattle.perch_fold.proofs.VerbLaws.{finished, refuses, outcome_numbers}
use Rattle.perch_fold.proofs.fold.Goals as goal

pub returns-then-a-eq0 : goal.returns-then-a-eq0
returns-then-a-eq0 c =
    let w = c.fold-a in
    let e = sym (finished w.result c.if-a-eq0.true) ∙ ap outcome_from w.ensures.value in record { value = e; outcome_is = outcome_numbers _ _ e; out_after = w.ensures.out_after }

pub returns : goal.returns
returns c =
    let w = c.fold-a in
    let e = sym (refuses w.result c.if-a-eq0.false) ∙ ap outcome_from w.ensures.value in record { value = e; outcome_is = outcome_numbers _ _ e; out_after = w.ensures.out_after }
