use Prim.Native.Nat.{ℕ}
use mathlib.Core.Path.{refl, ap, ◌∙◌}
use Rattle.arith.specs.Iterate.{iterate}
use Rattle.chip.specs.Clock.{chip_clock}
use Rattle.play_walk.proofs.ClockLaws.{clocks_on_is}
use Rattle.play_interrupts.proofs.StepLaws.{clocks_passed}
use Rattle.play_interrupts.proofs.UntilLaws.{until_is}
use Rattle.play_interrupts.proofs.clocks_step.Goals as goal

pub returns : goal.returns
returns c =
    let w = c.from-clocks.ensures in
    let u = c.until-k in
    let memory = c.args.memory.now in
    let s = c.args.p.moment.state in
    let p = c.requires in
    c.passed_of.ensures
    ∙ clocks_passed memory c.args.p u.result _ c.clocks_on-far.result c.change_next-n.result c.place_of-q.result
    (u.ensures ∙ until_is memory c.args.p.left s p.0 p.1 p.3)
    (c.clocks_on-far.ensures.value ∙ (clocks_on_is memory _ s p.0 p.1 ∙ ap (λ (i : ℕ). iterate (chip_clock memory) i s) w))
    (c.change_next-n.ensures ∙ rw w refl)
    (c.place_of-q.ensures ∙ rw (c.moment_of-here.ensures, c.saturating_sub.ensures, w) refl)
