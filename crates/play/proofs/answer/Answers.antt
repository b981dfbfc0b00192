use mathlib.Core.Path.{◌≡◌, refl, ◌∙◌}
use mathlib.Core.Bool.{true, false}
use lib.Dec.{eqb}
use borrow.Author.Tests.{eq-eqb, ne_eqb}
use Rattle.play.specs.Loop.{answer_of}
use Rattle.play.proofs.answer.Goals as goal
use Rattle.play.proofs.answer.Goals.{else-t-eq-REFUSED-via-then-t-eq-REFUSED+else-t-eq0, else-t-eq-REFUSED-via-else-t-eq-REFUSED}

pub returns-then-t-eq0 : goal.returns-then-t-eq0
unfolding answer_of
returns-then-t-eq0 c =
    let t = c.args.t in
    let e : eqb t.at 0 ≡ true = eq-eqb _ _ c.if-t-eq0.true in
    c.refuse.ensures ∙ rw (eq-eqb _ _ c.if-t-eq-REFUSED.true, e)

pub returns : goal.returns
unfolding answer_of
returns c =
    let t = c.args.t in
    elim c.else-t-eq-REFUSED.branch [
      | else-t-eq-REFUSED-via-then-t-eq-REFUSED+else-t-eq0 w ↦ let e : eqb t.at 0 ≡ false = ne_eqb _ _ w.if-t-eq0.false in rw (eq-eqb t.kind 2 w.if-t-eq-REFUSED.true, e) refl
      | else-t-eq-REFUSED-via-else-t-eq-REFUSED w ↦ rw (ne_eqb t.kind 2 w.if-t-eq-REFUSED.false) refl
    ]
