use mathlib.Core.Path.{refl, ◌∙◌}
use Rattle.play_step.proofs.take.Goals as goal

pub returns-in-Over : goal.returns-in-Over
returns-in-Over c = rw c.in-Over.is (record { value = c.outcome.ensures; out_after = refl })

pub returns-in-On : goal.returns-in-On
returns-in-On c = rw c.in-On.is (record { value = c.outcome-in-On.ensures; out_after = refl })

pub returns-in-Says : goal.returns-in-Says
returns-in-Says c =
    let u = c.put-next.ensures in rw c.in-Says.is (record { value = c.outcome-in-Says.ensures ∙ rw u.value refl; out_after = u.out_after })

pub returns-in-Refused : goal.returns-in-Refused
returns-in-Refused c = rw c.in-Refused.is (record { value = c.outcome-in-Refused.ensures; out_after = refl })
