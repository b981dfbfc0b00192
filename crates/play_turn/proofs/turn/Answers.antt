use borrow.Author.Tests.{eq-eqb, ne_eqb}
use Rattle.play_rules.specs.Turns.{cursor_turn, phase_turn}
use Rattle.play_turn.proofs.NumberLaws.{told_numbers}
use Rattle.play_turn.proofs.turn.Goals as goal

pub returns-then-p-eq-ACTING : goal.returns-then-p-eq-ACTING
returns-then-p-eq-ACTING c =
    let a = c.args in
    let t = c.cursor_turn in rw (eq-eqb _ _ c.if-p-eq-ACTING.true) (record { value = t.ensures.value; told_is = told_numbers t.result (cursor_turn a.log.now a.p) t.ensures.value; keeps = t.ensures.keeps })

pub returns : goal.returns
returns c =
    let t = c.phase_turn in rw (ne_eqb _ _ c.if-p-eq-ACTING.false) (record { value = t.ensures.value; told_is = told_numbers t.result (phase_turn c.args.p) t.ensures.value; keeps = t.ensures.keeps })
