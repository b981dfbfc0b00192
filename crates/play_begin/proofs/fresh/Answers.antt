use Rattle.play_rules.specs.Turns.{fresh_player}
use Rattle.play_begin.proofs.fresh.Goals as goal

pub returns : goal.returns
unfolding fresh_player
returns c = simp (c.start-c.ensures, c.power_on-s.ensures)
