use Prim.Native.Nat.{ℕ, ◌-◌, min}
use mathlib.Core.Path.{◌≡◌, refl, ap, ◌∙◌}
use native.Mathlib.Omega.{arith}
use Rattle.play_trace.specs.Stepping.{until_seen}
use Rattle.play_trace.proofs.EventLaws.{until_most}
use Rattle.play_trace.proofs.StepLaws.{clocks_passed}
use Rattle.play_trace.proofs.clocks_step.Goals as goal

pub overflow_add-m : goal.overflow_add-m
overflow_add-m c =
    let m = until_most c.args.memory.now c.min-n.result c.args.p.moment.state in
    let w = c.from.ensures in
    omega (arith, c.from-2.ensures, c.until_seen-span.ensures.clocks_value, m, c.min-n.ensures, w, c.requires.0, c.requires.1)

pub clock_next-next-requires : goal.clock_next-next-requires
clock_next-next-requires c =
    let m = until_most c.args.memory.now c.min-n.result c.args.p.moment.state in
    let w = c.from.ensures in
    omega (arith, c.from-2.ensures, c.until_seen-span.ensures.clocks_value, m, c.min-n.ensures, w, c.requires.0, c.requires.1)

pub clocks_past-requires : goal.clocks_past-requires
clocks_past-requires c = omega (arith, c.requires.0)

pub returns : goal.returns
returns c =
    let a = c.args in
    let memory = c.args.memory.now in
    let s = c.args.p.moment.state in
    let w = c.from-2.ensures in
    let e : c.min-n.result ≡ min a.p.left (a.until - a.p.moment.time) =
    c.min-n.ensures ∙ ap (λ (i : ℕ). min i (a.until - a.p.moment.time)) c.from.ensures in
    c.passed_of.ensures
    ∙ clocks_passed memory a.p c.until_seen-span.result.clocks _ c.until_seen-span.result.state c.clock_next-next.result c.clocks_past.result
    (c.until_seen-span.ensures.clocks_value ∙ ap (λ (i : ℕ). until_seen memory i s) e)
    c.until_seen-span.ensures.state_value
    (c.clock_next-next.ensures ∙ rw w refl)
    c.clocks_past.ensures
