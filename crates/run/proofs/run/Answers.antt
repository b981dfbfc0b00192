use mathlib.Core.Path.{sym, ◌∙◌}
use native.Mathlib.Omega.{arith}
use Rattle.run_answer.proofs.AnswerLaws.{number_fine}
use Rattle.run_dwell.proofs.DwellLaws.{number_right, dwell_refused, dwell_worked}
use Rattle.run.proofs.run.Goals as goal

pub returns-then-number-ne0 : goal.returns-then-number-ne0
returns-then-number-ne0 c =
    let a = c.args in
    let z = dwell_refused a.memory.now a.s a.counts a.count a.words.now c.number_of-number.result c.if-number-ne0.true c.number_of-number.ensures in record { value = c.refuse.ensures ∙ z.0; words_after = z.1 }

pub overflow_cast-count : goal.overflow_cast-count
overflow_cast-count c =
    let a = c.args in
    let right = number_right a.memory.now a.s a.counts a.count (sym c.number_of-number.ensures ∙ c.if-number-ne0.false) in
    omega (arith, (number_fine a.memory.now a.s a.count right.0).2)

pub run_counted-requires : goal.run_counted-requires
run_counted-requires c =
    let a = c.args in
    let right = number_right a.memory.now a.s a.counts a.count (sym c.number_of-number.ensures ∙ c.if-number-ne0.false) in
    let fine = number_fine a.memory.now a.s a.count right.0 in record { s_value = fine.1; count_bound = fine.2; counts_value = right.1 }

pub returns : goal.returns
returns c =
    let a = c.args in let pair = dwell_worked a.memory.now a.s a.counts a.count a.words.now (sym c.number_of-number.ensures ∙ c.if-number-ne0.false) _ _
    c.run_counted.ensures.value c.run_counted.ensures.words_after in record { value = pair.0; words_after = pair.1 }
