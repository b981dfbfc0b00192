use mathlib.Core.Path.{◌∙◌}
use Rattle.log_fold.proofs.MarkLaws.{marked_none}
use Rattle.log_fold.proofs.PassLaws.{start_in_lem}
use Rattle.log_fold.proofs.AnswerLaws.{refused, right, turns_are, short, finished, promised}
use Rattle.log_fold.proofs.fold.Goals as goal

pub returns-then-c-ne0 : goal.returns-then-c-ne0
returns-then-c-ne0 c =
    let k = c.check-c in
    let p = refused _ _ k.result k.ensures c.if-c-ne0.true in
    let q = c.refusal.ensures ∙ p.0 in record { value = q; out_after = p.1; folds = promised _ _ _ _ q p.1 }

pub returns-then-out-log : goal.returns-then-out-log
returns-then-out-log c =
    let k = c.check-c in
    let p = short _ _ k.result k.ensures c.if-c-ne0.false c.if-out-log.true in
    let q = c.refusal-then-out-log.ensures ∙ p.0 in record { value = q; out_after = p.1; folds = promised _ _ _ _ q p.1 }

pub pass-n-requires : goal.pass-n-requires
pass-n-requires c =
    let k = c.check-c in
    let z = c.if-c-ne0.false in
    let a = c.args in
    let g = right _ a.out.now k.result k.ensures z in
    (g, turns_are _ a.out.now k.result k.ensures z, c.if-out-log.false, marked_none _ _ (start_in_lem _ g).0)

pub returns : goal.returns
returns c =
    let k = c.check-c in
    let w = c.pass-n in
    let p = finished _ _ k.result k.ensures c.if-c-ne0.false c.if-out-log.false w.result w.new.out w.ensures in record { value = p.0; out_after = p.1; folds = promised _ _ _ _ p.0 p.1 }
