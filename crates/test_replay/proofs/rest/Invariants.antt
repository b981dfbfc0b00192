use Rattle.std.proofs.Common.{◌≡◌, ◌-◌, ◌≤◌, length}
use Rattle.test_replay.proofs.rest.Given as goal

abbrev pub invariant-loop : goal.invariant-loop
invariant-loop l = (length l.state ≡ length l.initial.state) × (length l.words ≡ length l.initial.words) × (l.counter ≤ 100000)

abbrev pub decreases-loop : goal.decreases-loop
decreases-loop l = 100000 - l.counter
