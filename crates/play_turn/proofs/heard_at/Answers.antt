use borrow.Author.Tests.{eq-eqb, ne_eqb}
use Rattle.play_rules.specs.Turns.{level_told}
use Rattle.play_turn.proofs.heard_at.Goals as goal

pub returns-then-level-p : goal.returns-then-level-p
unfolding level_told
returns-then-level-p c = rw (← c.level-level.ensures, eq-eqb _ _ c.if-level-p.true)

pub returns : goal.returns
unfolding level_told
returns c = rw (← c.level-level.ensures, ne_eqb _ _ c.if-level-p.false)
