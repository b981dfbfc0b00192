use Rattle.play_rules.specs.Turns.{fresh_player, ended_player}
use Rattle.play_begin.proofs.ended.Goals as goal

pub returns : goal.returns
unfolding fresh_player ended_player
returns c = rw c.fresh-p.ensures
