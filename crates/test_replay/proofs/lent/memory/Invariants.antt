use Rattle.std.proofs.Common.{◌≡◌, ◌-◌, ◌≤◌, length}
use Rattle.test_replay.proofs.lent.memory.Given as goal

abbrev pub invariant-loop-i : goal.invariant-loop-i
invariant-loop-i l = (l.i ≤ 32769) × (32769 ≡ length l.memory)

abbrev pub decreases-loop-i : goal.decreases-loop-i
decreases-loop-i l = 32769 - l.i
