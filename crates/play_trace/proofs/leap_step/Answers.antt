use Prim.Native.Nat.{ℕ, ◌-◌, min}
use mathlib.Core.Path.{◌≡◌, ap, ◌∙◌}
use native.Mathlib.Omega.{arith}
use Rattle.play_walk.proofs.ClockLaws.{clocks_on_is}
use Rattle.play_trace.proofs.StepLaws.{clocks_far}
use Rattle.play_trace.proofs.leap_step.Goals as goal

pub clocks_past-requires : goal.clocks_past-requires
clocks_past-requires c = omega (arith, c.requires.2)

pub returns : goal.returns
returns c =
    let a = c.args in
    let memory = c.args.memory.now in
    let k = c.min-k.result in
    let e : k ≡ min a.p.left (a.from - a.p.moment.time) =
    c.min-k.ensures ∙ ap (λ (i : ℕ). min i (a.from - a.p.moment.time)) c.from.ensures in
    c.passed_of.ensures
    ∙ clocks_far memory a.p k _ c.clocks_on-far.result c.clocks_past.result e
    (c.clocks_on-far.ensures.value ∙ clocks_on_is memory k a.p.moment.state c.requires.0 c.requires.1) c.clocks_past.ensures
