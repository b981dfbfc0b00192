use mathlib.Core.Path.{refl}
use Rattle.play_rules.specs.Turns.{acted}
use Rattle.play_turn.proofs.at_act.Goals as goal

pub returns-in-Wait : goal.returns-in-Wait
unfolding acted
returns-in-Wait c = record { value = rw c.in-Wait.is refl; keeps = λ h. h }

pub returns-in-Access : goal.returns-in-Access
returns-in-Access c = rw c.in-Access.is (record { value = c.at_access.ensures.value; keeps = c.at_access.ensures.keeps })
