use Prim.Native.Nat.{ℕ}
use mathlib.Core.Path.{ap, sym, ◌∙◌}
use Rattle.play_trace.specs.declared.Next.{Next}
use Rattle.play_trace.specs.Stepping.{step_of, passed_of, passed}
use Rattle.play_trace.proofs.NumberLaws.{with_numbers}
use Rattle.play_trace.proofs.StepLaws.{fine, step_refused, step_inside, step_outside}
use Rattle.play_trace.proofs.step.Goals as goal

pub returns-then-k-ne0 : goal.returns-then-k-ne0
returns-then-k-ne0 c =
    let r = c.refusal_of-k.ensures in
    let a = c.args in let pair = with_numbers c.passed_of.result (step_of a.log.now a.memory.now a.from a.until a.p)
    (c.passed_of.ensures
    ∙ (ap (λ (x : ℕ). passed_of (Next.Refused x 0) a.p) r
    ∙ ap passed (step_refused a.log.now a.memory.now a.from a.until a.p (λ z. c.if-k-ne0.true (r ∙ z))))) in record { value = pair.0; next_is = pair.1 }

pub inside_step-requires : goal.inside_step-requires
inside_step-requires c =
    let a = c.args in
    let f = fine a.memory.now a.p (sym c.refusal_of-k.ensures ∙ c.if-k-ne0.false) in
    (f.early, f.low)

pub returns-then-p : goal.returns-then-p
returns-then-p c =
    let a = c.args in
    let none = sym c.refusal_of-k.ensures ∙ c.if-k-ne0.false in let pair = with_numbers c.inside_step.result (step_of a.log.now a.memory.now a.from a.until a.p)
    (c.inside_step.ensures ∙ ap passed (step_inside a.log.now a.memory.now a.from a.until a.p none c.if-p.true)) in record { value = pair.0; next_is = pair.1 }

pub outside_step-requires : goal.outside_step-requires
outside_step-requires c =
    let a = c.args in
    let f = fine a.memory.now a.p (sym c.refusal_of-k.ensures ∙ c.if-k-ne0.false) in
    (f.long, f.ranged, f.early)

pub returns : goal.returns
returns c =
    let a = c.args in
    let none = sym c.refusal_of-k.ensures ∙ c.if-k-ne0.false in let pair = with_numbers c.outside_step.result (step_of a.log.now a.memory.now a.from a.until a.p)
    (c.outside_step.ensures ∙ ap passed (step_outside a.log.now a.memory.now a.from a.until a.p none c.if-p.false)) in record { value = pair.0; next_is = pair.1 }
