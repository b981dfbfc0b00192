use mathlib.Core.Path.{refl, ◌∙◌}
use native.Mathlib.Omega.{arith}
use Rattle.play_walk.proofs.WalkLaws.{step_time}
use Rattle.play_trace.proofs.log_step.Goals as goal

pub met_step-requires : goal.met_step-requires
met_step-requires c =
    let e = step_time c.args.log.now c.args.p.moment c.step-w.result c.step-w.ensures.value in
    (c.requires, omega (arith, e, c.requires))

pub returns : goal.returns
returns c = c.met_step.ensures ∙ rw c.step-w.ensures.value refl
