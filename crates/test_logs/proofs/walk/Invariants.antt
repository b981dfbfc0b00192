use Rattle.std.proofs.Common.{◌-◌, ◌≤◌}
use Rattle.test_logs.proofs.walk.Given as goal

abbrev pub invariant-loop-steps : goal.invariant-loop-steps
invariant-loop-steps l = (l.items ≤ l.steps) × (l.steps ≤ l.most)

abbrev pub decreases-loop-steps : goal.decreases-loop-steps
decreases-loop-steps l = l.most - l.steps
