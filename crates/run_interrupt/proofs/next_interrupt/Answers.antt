use mathlib.Core.Path.{refl, sym, ◌∙◌}
use native.Mathlib.Omega.{arith}
use borrow.Author.Tests.{ne_eqb}
use Rattle.chip.specs.Range.{Bytes}
use Rattle.run_answer.proofs.AnswerLaws.{number_fine}
use Rattle.run_interrupt.specs.Next.{next_interrupt}
use Rattle.run_interrupt.proofs.FirstLaws.{next_is}
use Rattle.run_interrupt.proofs.NumberLaws.{rise_numbers}
use Rattle.run_interrupt.proofs.next_interrupt.Goals as goal

pub returns-then-number-ne0 : goal.returns-then-number-ne0
unfolding next_interrupt
returns-then-number-ne0 c =
    let x = c.args in let pair = rise_numbers x.a x.memory.now x.s x.count _ (rw (← c.number_of-number.ensures, ne_eqb _ 0 c.if-number-ne0.true) refl) in record { value = pair.0; result_value = pair.1.0; result_value_2 = pair.1.1 }

pub returns-then-is_set : goal.returns-then-is_set
returns-then-is_set c =
    let x = c.args in
    let bytes : Bytes x.memory.now = λ k. omega (arith, c.type_inv.memory k) in let pair = rise_numbers x.a x.memory.now x.s x.count _
    (rw (next_is x.a x.memory.now bytes x.s x.count (sym c.number_of-number.ensures ∙ c.if-number-ne0.false), sym c.is_set.ensures ∙ c.if-is_set.true) refl) in record { value = pair.0; result_value = pair.1.0; result_value_2 = pair.1.1 }

pub rise_in-requires : goal.rise_in-requires
rise_in-requires c =
    let x = c.args in
    (number_fine x.memory.now x.s x.count (sym c.number_of-number.ensures ∙ c.if-number-ne0.false)).2

pub returns : goal.returns
returns c =
    let x = c.args in
    let bytes : Bytes x.memory.now = λ k. omega (arith, c.type_inv.memory k) in let pair = rise_numbers x.a x.memory.now x.s x.count _
    (rw (next_is x.a x.memory.now bytes x.s x.count (sym c.number_of-number.ensures ∙ c.if-number-ne0.false), sym c.is_set.ensures ∙ c.if-is_set.false, ← c.until-u.ensures)
    c.rise_in.ensures) in record { value = pair.0; result_value = pair.1.0; result_value_2 = pair.1.1 }
