use Rattle.play_begin.proofs.first.Goals as goal

pub returns-then-passes : goal.returns-then-passes
returns-then-passes c = rw c.if-passes.true c.fresh.ensures

pub returns-else-passes : goal.returns-else-passes
returns-else-passes c = rw c.if-passes.false c.ended.ensures
