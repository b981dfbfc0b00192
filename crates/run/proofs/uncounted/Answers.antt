use mathlib.Core.Path.{sym, ◌∙◌}
use native.Mathlib.Omega.{arith}
use Rattle.run_answer.proofs.AnswerLaws.{number_fine, refused, worked_out}
use Rattle.run_walk.proofs.SettleLaws.{roomy_none}
use Rattle.run.proofs.uncounted.Goals as goal

pub returns-then-number-ne0 : goal.returns-then-number-ne0
returns-then-number-ne0 c =
    let a = c.args in
    let z = refused a.memory.now a.s a.count a.words.now c.number_of-number.result c.if-number-ne0.true c.number_of-number.ensures in record { value = c.refuse.ensures ∙ z.0; words_after = z.1 }

pub overflow_cast-count : goal.overflow_cast-count
overflow_cast-count c =
    let a = c.args in
    omega (arith, (number_fine a.memory.now a.s a.count (sym c.number_of-number.ensures ∙ c.if-number-ne0.false)).2)

pub run_on-requires : goal.run_on-requires
run_on-requires c =
    let a = c.args in
    let fine = number_fine a.memory.now a.s a.count (sym c.number_of-number.ensures ∙ c.if-number-ne0.false) in record { s_value = fine.1; count_bound = fine.2; roomy = roomy_none a.memory.now a.s a.count (omega (arith, fine.2)) }

pub returns : goal.returns
returns c =
    let a = c.args in let pair = worked_out a.memory.now a.s a.count a.words.now (sym c.number_of-number.ensures ∙ c.if-number-ne0.false) _ _
    c.run_on.ensures.value c.run_on.ensures.words_after in record { value = pair.0; words_after = pair.1 }
