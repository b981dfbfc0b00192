use Rattle.std.proofs.Common.{arith, ltb-true}
use Rattle.test_replay.proofs.stored.size.Goals as goal

pub field-requires : goal.field-requires
field-requires c = (omega (arith, ltb-true), omega arith)

pub loop-left-preserved : goal.loop-left-preserved
loop-left-preserved c = omega (arith, ltb-true)
