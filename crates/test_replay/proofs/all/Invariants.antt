use Rattle.std.proofs.Common.{◌-◌, ◌≤◌}
use Rattle.test_replay.proofs.all.Given as goal

abbrev pub invariant-loop : goal.invariant-loop
invariant-loop l = l.counter ≤ 100000

abbrev pub decreases-loop : goal.decreases-loop
decreases-loop l = 100000 - l.counter
