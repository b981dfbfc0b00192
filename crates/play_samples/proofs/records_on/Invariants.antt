-- The loop's invariant: where the records are heard up to record i, by the pen. Assumes nothing.
use Prim.Native.Nat.{◌≤◌}
use Rattle.play_samples.proofs.MovingLaws.{Moving}
use Rattle.play_samples.proofs.records_on.Given as goal

abbrev pub invariant-loop-i : goal.invariant-loop-i
invariant-loop-i l =
    (l.i ≤ l.n) × Moving l.pal l.rate l.words l.n l.done l.initial.out l.at l.a l.level l.out l.pen l.v l.from l.i
