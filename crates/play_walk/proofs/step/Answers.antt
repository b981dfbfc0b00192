use mathlib.Core.Path.{◌≡◌, refl, ◌∙◌}
use Rattle.play_walk.specs.Walk.{walk_step}
use Rattle.play_walk.proofs.NumberLaws.{met_numbers}
use Rattle.play_walk.proofs.step.Goals as goal

pub returns : goal.returns
unfolding walk_step
returns c =
    let a = c.args in
    let w = c.given_met in
    let e : w.result ≡ walk_step a.log.now a.m = w.ensures.value ∙ rw c.step-t.ensures.value refl in record { value = e; met_is = met_numbers a.log.now a.m w.result e; state_value = w.ensures.state_value }
