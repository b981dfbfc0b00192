-- The loop's invariant: there is room for the lines still to be added, and what is written is what has been closed so far (`Closing`). Assumes nothing.
use Prim.Native.Nat.{ℕ, ◌+◌, ◌-◌, ◌*◌, ◌≤◌}
use mathlib.Core.List.{List}
use Rattle.log_salvage_rules.specs.Mending.{Kept, closed_by}
use Rattle.log_salvage.specs.Writing.{Written}
use Rattle.log_salvage.proofs.EndLaws.{Closing}
use Rattle.log_salvage.proofs.close.Given as goal

abbrev pub invariant-loop : goal.invariant-loop
invariant-loop x =
    (x.p.bytes ≤ 60006 + 10 * x.counter)
    × (x.p.entries ≤ 60001 + x.counter)
    × ((o l : List ℕ) (k : Kept) → Written o l k x.initial.out x.initial.list x.initial.p → Closing o l (closed_by x.depth k) x.out x.list x.p (x.depth - x.counter))
