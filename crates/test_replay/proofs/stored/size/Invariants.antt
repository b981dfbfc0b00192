use Rattle.std.proofs.Common.{◌≤◌}
use Rattle.test_replay.proofs.stored.size.Given as goal

abbrev pub invariant-loop-left : goal.invariant-loop-left
invariant-loop-left l = l.at ≤ 500

abbrev pub decreases-loop-left : goal.decreases-loop-left
decreases-loop-left l = l.left
