use Rattle.std.proofs.Common.{sym, ◌∙◌, arith}
use Rattle.log_item.proofs.find.Goals as goal

pub returns-in-Here : goal.returns-in-Here
returns-in-Here c = c.in-Here.ensures ∙ sym c.loop-a.invariant.2

pub loop-a-smaller : goal.loop-a-smaller
loop-a-smaller c = let g = c.in-On.ensures in omega arith

pub loop-a-preserved : goal.loop-a-preserved
loop-a-preserved c = let g = c.in-On.ensures in (omega arith, g.3, c.loop-a.invariant.2 ∙ g.4)
