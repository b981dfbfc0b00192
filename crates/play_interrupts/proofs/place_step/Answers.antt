use mathlib.Core.Path.{ap, ◌∙◌}
use Rattle.play_interrupts.specs.Stepping.{passed}
use Rattle.play_interrupts.proofs.StepLaws.{place_log, place_three, place_clocks}
use Rattle.play_interrupts.proofs.place_step.Goals as goal

pub returns-then-p-eq0 : goal.returns-then-p-eq0
returns-then-p-eq0 c =
    let a = c.args in
    c.log_step.ensures ∙ ap passed (place_log a.log.now a.memory.now a.p c.if-p-eq0.true)

pub returns-then-p-gt1000000 : goal.returns-then-p-gt1000000
returns-then-p-gt1000000 c =
    let a = c.args in
    c.passed_of.ensures ∙ ap passed (place_three a.log.now a.memory.now a.p c.if-p-eq0.false c.if-p-gt1000000.true)

pub clocks_step-requires : goal.clocks_step-requires
clocks_step-requires c =
    let p = c.requires in
    (p.0, p.1, p.2, c.if-p-gt1000000.false)

pub returns : goal.returns
returns c =
    let a = c.args in
    c.clocks_step.ensures ∙ ap passed (place_clocks a.log.now a.memory.now a.p c.if-p-eq0.false c.if-p-gt1000000.false)
