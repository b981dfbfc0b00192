use Prim.Native.Nat.{ℕ}
use mathlib.Core.Path.{ap, ◌∙◌}
use Rattle.play_trace.specs.declared.Next.{Next}
use Rattle.play_trace.specs.Stepping.{place_time, passed_of, passed}
use Rattle.play_trace.proofs.StepLaws.{inside_over, inside_log, inside_clocks}
use Rattle.play_trace.proofs.inside_step.Goals as goal

pub returns-then-until-m : goal.returns-then-until-m
unfolding place_time
returns-then-until-m c =
    let a = c.args in
    c.passed_of.ensures
    ∙ (ap (λ (x : ℕ). passed_of (Next.Over x) a.p) c.shown_time.ensures
    ∙ ap passed (inside_over a.log.now a.memory.now a.until a.p c.if-until-m.true))

pub returns-then-p-eq0 : goal.returns-then-p-eq0
returns-then-p-eq0 c =
    let a = c.args in
    c.log_step.ensures ∙ ap passed (inside_log a.log.now a.memory.now a.until a.p c.if-until-m.false c.if-p-eq0.true)

pub returns : goal.returns
returns c =
    let a = c.args in
    c.clocks_step.ensures ∙ ap passed (inside_clocks a.log.now a.memory.now a.until a.p c.if-until-m.false c.if-p-eq0.false)
