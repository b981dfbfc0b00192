use Prim.Native.Nat.{◌-◌, ◌≤◌, ◌<◌}
use lib.ListN.{length, get_or}
use mathlib.Core.Path.{◌≡◌}
use Rattle.log_line.specs.declared.Act.TheVariants.{Wait}
use Rattle.log_item.specs.Walk.{acts_at}
use Rattle.log_item.proofs.find.Given as goal

abbrev pub invariant-loop-a : goal.invariant-loop-a
invariant-loop-a l =
    (l.r ≤ 1000000) × (l.r < length (acts_at l.log l.i l.d)) × (get_or (acts_at l.log l.at 0) l.k (Wait 0) ≡ get_or (acts_at l.log l.i l.d) l.r (Wait 0))

abbrev pub decreases-loop-a : goal.decreases-loop-a
decreases-loop-a l = length l.log - l.i
