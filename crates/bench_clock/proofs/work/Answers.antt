use Prim.Native.Nat.{ℕ}
use mathlib.Core.Path.{◌≡◌, sym, ap, ◌∙◌}
use native.Mathlib.Omega.{arith}
use Rattle.arith.specs.Iterate.{iterate}
use Rattle.arith.proofs.IterateLaws.{iterate_zero, iterate_more}
use Rattle.chip.specs.Clock.{chip_clock}
use Rattle.bench_clock.proofs.work.Goals as goal

pub loop-init : goal.loop-init
loop-init c = sym (iterate_zero _ _)

pub loop-preserved : goal.loop-preserved
loop-preserved c =
    let a = c.args in
    c.clocked-state.ensures ∙ ap (chip_clock a.memory.now) c.loop.invariant ∙ sym (iterate_more (chip_clock a.memory.now) c.loop.counter a.s)

pub returns : goal.returns
returns c =
    let a = c.args in
    let all : c.loop.counter ≡ a.n = omega arith in
    c.loop.invariant ∙ ap (λ (i : ℕ). iterate (chip_clock a.memory.now) i a.s) all
