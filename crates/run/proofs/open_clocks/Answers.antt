use native.Mathlib.Omega.{arith}
use mathlib.Core.Path.{sym, ◌∙◌}
use Prim.Native.Nat.{◌-◌}
use Rattle.run_dwell.proofs.WithinLaws.{within_most}
use Rattle.run_walk.proofs.WalkLaws.{open_all}
use Rattle.run.proofs.open_clocks.Goals as goal

pub overflow_sub-count : goal.overflow_sub-count
overflow_sub-count c = omega (arith, c.requires.count_bound)

pub returns-then-within : goal.returns-then-within
returns-then-within c =
    let a = c.args in
    let p = c.requires in
    open_all a.memory.now a.s a.counts a.count
    (λ i. omega (arith, p.count_bound, within_most (4000000000 - a.count) a.counts (sym c.within.ensures ∙ c.if-within.true) i))

pub walk-requires : goal.walk-requires
walk-requires c = let p = c.requires in record { s_value = p.s_value; count_bound = p.count_bound; counts_value = p.counts_value }

pub returns : goal.returns
returns c = c.walk.ensures
