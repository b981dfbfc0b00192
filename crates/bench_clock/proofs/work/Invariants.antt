-- The loop's invariant: so many clocks are worked.
use mathlib.Core.Path.{◌≡◌}
use Rattle.arith.specs.Iterate.{iterate}
use Rattle.chip.specs.Clock.{chip_clock}
use Rattle.bench_clock.proofs.work.Given as goal

abbrev pub invariant-loop : goal.invariant-loop
invariant-loop l = l.state ≡ iterate (chip_clock l.memory) l.counter l.initial.state
