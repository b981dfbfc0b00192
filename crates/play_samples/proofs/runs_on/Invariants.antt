-- The loop's invariant: the clocks left lead to where all of them lead. Assumes nothing.
use Prim.Native.Nat.{◌-◌}
use mathlib.Core.Path.{◌≡◌}
use lib.ListN.{length}
use Rattle.play_samples.proofs.RunLaws.{Running}
use Rattle.play_samples.proofs.runs_on.Given as goal

abbrev pub invariant-loop-left : goal.invariant-loop-left
invariant-loop-left l =
    (length l.words ≡ length l.initial.words) × Running l.memory l.pal l.rate l.k l.initial.state l.initial.out l.initial.sampler l.out l.place l.sampler l.left l.state

abbrev pub decreases-loop-left : goal.decreases-loop-left
decreases-loop-left l = l.left
