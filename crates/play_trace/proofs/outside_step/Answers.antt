use mathlib.Core.Path.{ap, ◌∙◌}
use Rattle.play_trace.specs.Stepping.{passed}
use Rattle.play_trace.proofs.StepLaws.{outside_begins, outside_log, outside_clocks}
use Rattle.play_trace.proofs.outside_step.Goals as goal

pub returns-then-from-m : goal.returns-then-from-m
returns-then-from-m c =
    let a = c.args in
    c.begins_at.ensures ∙ ap passed (outside_begins a.log.now a.memory.now a.from a.p c.if-from-m.true)

pub far_step-requires : goal.far_step-requires
far_step-requires c = c.requires.2

pub returns-then-p-eq0 : goal.returns-then-p-eq0
returns-then-p-eq0 c =
    let a = c.args in
    c.far_step.ensures ∙ ap passed (outside_log a.log.now a.memory.now a.from a.p c.if-from-m.false c.if-p-eq0.true)

pub leap_step-requires : goal.leap_step-requires
leap_step-requires c = let p = c.requires in (p.0, p.1, p.2, c.if-from-m.false)

pub returns : goal.returns
returns c =
    let a = c.args in
    c.leap_step.ensures ∙ ap passed (outside_clocks a.log.now a.memory.now a.from a.p c.if-from-m.false c.if-p-eq0.false)
