use Rattle.std.proofs.Common.{arith, rules, ltb-true}
use Rattle.test_replay.proofs.written.answer.Goals as goal

pub put-v-requires : goal.put-v-requires
put-v-requires c = (omega (arith, ltb-true), omega arith)

pub loop-left-preserved : goal.loop-left-preserved
loop-left-preserved c = (omega (arith, ltb-true), search rules)
