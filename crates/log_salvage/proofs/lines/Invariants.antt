-- The loop's invariant: where the pass stands is within bounds, and it has come so far (`Come`). Assumes nothing.
use Prim.Native.Nat.{ℕ, ◌-◌, ◌≤◌}
use mathlib.Core.Path.{◌≡◌}
use mathlib.Core.List.{List}
use lib.ListN.{length, drop}
use Rattle.log_rules.specs.Lines.{lines_of}
use Rattle.log_salvage_rules.specs.Mending.{Kept, sift}
use Rattle.log_salvage_rules.proofs.SiftLaws.{Going}
use Rattle.log_salvage.specs.Writing.{Sifts, Bound}
use Rattle.log_salvage.proofs.LoopLaws.{Come}
use Rattle.log_salvage.proofs.lines.Given as goal

abbrev pub invariant-loop-at : goal.invariant-loop-at
invariant-loop-at x =
    (x.at ≤ length x.log)
    × Bound x.at x.s
    × (length x.out ≡ length x.initial.out)
    × (length x.list ≡ length x.initial.list)
    × ((o l : List ℕ) (k : Kept) → Going k → Sifts o l k x.initial.out x.initial.list x.initial.s → Come x.log o l (sift k x.first (lines_of (drop x.first x.log))) x.out x.list x.at x.s)

abbrev pub decreases-loop-at : goal.decreases-loop-at
decreases-loop-at l = length l.log - l.at
