use lib.ListN.{length}
use Prim.Native.Nat.{◌≤◌, ◌<◌, ◌-◌}
use Rattle.test_ranges.proofs.value.Given as goal

abbrev pub invariant-loop-i : goal.invariant-loop-i
invariant-loop-i l = (l.i ≤ length l.token) × (l.n < 65536)

abbrev pub decreases-loop-i : goal.decreases-loop-i
decreases-loop-i l = length l.token - l.i
