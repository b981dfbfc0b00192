use Rattle.std.proofs.Common.{◌≡◌, ◌+◌, ◌-◌, ◌≤◌, length}
use Rattle.c_state.specs.Bytes.{state_size}
use Rattle.test_replay.proofs.lent.state.Given as goal

abbrev pub invariant-loop-i : goal.invariant-loop-i
invariant-loop-i l = (l.i ≤ state_size + 1) × (state_size + 1 ≡ length l.state)

abbrev pub decreases-loop-i : goal.decreases-loop-i
decreases-loop-i l = state_size + 1 - l.i
