use Prim.Native.Nat.{◌≤◌, ◌-◌}
use Rattle.test_plays.proofs.all.Given as goal

abbrev pub invariant-loop-k : goal.invariant-loop-k
invariant-loop-k l = l.k ≤ 100

abbrev pub decreases-loop-k : goal.decreases-loop-k
decreases-loop-k l = 100 - l.k
