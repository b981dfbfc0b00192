use mathlib.Core.Path.{ap, sym, ◌∙◌}
use Rattle.play_interrupts.specs.Stepping.{step_of, passed}
use Rattle.play_interrupts.proofs.NumberLaws.{with_numbers}
use Rattle.play_interrupts.proofs.StepLaws.{step_one, step_two, step_nine, step_some}
use Rattle.play_interrupts.proofs.step.Goals as goal

pub returns-then-memory-ne32768 : goal.returns-then-memory-ne32768
returns-then-memory-ne32768 c =
    let a = c.args in
    let pair =
    with_numbers c.passed_of.result (step_of a.log.now a.memory.now a.p)
    (c.passed_of.ensures ∙ ap passed (step_one a.log.now a.memory.now a.p c.if-memory-ne32768.true)) in
    record { value = pair.0; next_is = pair.1 }

pub returns-then-not-in_range : goal.returns-then-not-in_range
returns-then-not-in_range c =
    let a = c.args in
    let pair =
    with_numbers c.passed_of-then-not-in_range.result (step_of a.log.now a.memory.now a.p)
    (c.passed_of-then-not-in_range.ensures ∙ ap passed (step_two a.log.now a.memory.now a.p c.if-memory-ne32768.false (sym c.in_range.ensures ∙ c.if-not-in_range.true))) in
    record { value = pair.0; next_is = pair.1 }

pub returns-then-m-gt2000000000 : goal.returns-then-m-gt2000000000
returns-then-m-gt2000000000 c =
    let a = c.args in
    let pair =
    with_numbers c.passed_of-then-m-gt2000000000.result (step_of a.log.now a.memory.now a.p)
    (c.passed_of-then-m-gt2000000000.ensures ∙ ap passed (step_nine a.log.now a.memory.now a.p c.if-memory-ne32768.false (sym c.in_range.ensures ∙ c.if-not-in_range.false) c.if-m-gt2000000000.true)) in
    record { value = pair.0; next_is = pair.1 }

pub place_step-requires : goal.place_step-requires
place_step-requires c = (c.if-memory-ne32768.false, sym c.in_range.ensures ∙ c.if-not-in_range.false, c.if-m-gt2000000000.false)

pub returns : goal.returns
returns c =
    let a = c.args in
    let pair =
    with_numbers c.place_step.result (step_of a.log.now a.memory.now a.p)
    (c.place_step.ensures ∙ ap passed (step_some a.log.now a.memory.now a.p c.if-memory-ne32768.false (sym c.in_range.ensures ∙ c.if-not-in_range.false) c.if-m-gt2000000000.false)) in
    record { value = pair.0; next_is = pair.1 }
