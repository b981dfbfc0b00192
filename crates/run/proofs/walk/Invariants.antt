-- The loop's invariant is `Walking`, of any state whose DMC the walk began with; a turn goes on to the DMC's next change. Assumes nothing.
use Prim.Native.Nat.{◌-◌, ◌+◌}
use mathlib.Core.Path.{◌≡◌}
use mathlib.Core.Bool.{true}
use Rattle.chip.specs.Range.{in_range}
use Rattle.chip.specs.declared.State.{State}
use Rattle.chip_tables.specs.Table.{dmc_period}
use Rattle.run_walk.specs.Walk.{Walking}
use Rattle.run.proofs.walk.Given as goal

abbrev pub invariant-loop-walked : goal.invariant-loop-walked
invariant-loop-walked l =
    (s : State) → in_range s ≡ true → l.initial.d ≡ s.dmc → l.period ≡ dmc_period s.pal s.dmc.registers.index → Walking l.memory s l.initial.table l.count l.table l.d l.at l.walked

abbrev pub decreases-loop-walked : goal.decreases-loop-walked
decreases-loop-walked l = l.count + 1 - l.at
