use mathlib.Core.Path.{refl, ◌∙◌}
use Rattle.play_rules.specs.Turns.{cursor_turn}
use Rattle.play_turn.proofs.KeepLaws.{found_back}
use Rattle.play_turn.proofs.cursor_turn.Goals as goal

pub returns : goal.returns
unfolding cursor_turn
returns c = record { value = c.stepped_to.ensures.value ∙ rw (c.step-s.ensures.value, found_back) refl; keeps = c.stepped_to.ensures.keeps }
