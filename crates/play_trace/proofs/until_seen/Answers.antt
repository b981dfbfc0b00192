use Prim.Native.Nat.{ℕ}
use mathlib.Core.Path.{◌≡◌, refl, sym, ap, ◌∙◌}
use mathlib.Core.Bool.{true, false}
use native.Mathlib.Omega.{arith}
use Rattle.arith.specs.Iterate.{iterate}
use Rattle.chip.specs.Clock.{chip_clock}
use Rattle.chip_seen.specs.Seen.{seen_of, same_seen}
use Rattle.play_trace.proofs.UntilLaws.{along_start, along_on, along_found, along_end}
use Rattle.play_trace.proofs.until_seen.Goals as goal

pub loop-k-init : goal.loop-k-init
loop-k-init c = let a = c.args in along_start a.memory.now a.n a.s

pub overflow_add-result : goal.overflow_add-result
overflow_add-result c = omega (arith, c.loop-k-test)

pub returns-then-not-same_seen : goal.returns-then-not-same_seen
returns-then-not-same_seen c =
    let a = c.args in
    let e : same_seen (seen_of a.s) (seen_of c.clocked-state.result) ≡ false =
    sym (c.same_seen.ensures ∙ rw (c.seen_of-now.ensures, c.seen_of-seen.ensures) refl) ∙ c.if-not-same_seen.true in
    let found = along_found a.memory.now a.n a.s c.loop-k.k c.loop-k.state c.clocked-state.result in
    let f = found c.loop-k.invariant (omega (arith, c.loop-k-test)) c.clocked-state.ensures e in record { clocks_value = f.clocks; state_value = f.state }

pub loop-k-preserved : goal.loop-k-preserved
loop-k-preserved c =
    let a = c.args in
    let e : same_seen (seen_of a.s) (seen_of c.clocked-state.result) ≡ true =
    sym (c.same_seen.ensures ∙ rw (c.seen_of-now.ensures, c.seen_of-seen.ensures) refl) ∙ c.if-not-same_seen.false in
    along_on a.memory.now a.n a.s c.loop-k.k c.loop-k.state c.clocked-state.result c.loop-k.invariant (omega (arith, c.loop-k-test)) c.clocked-state.ensures e

pub returns : goal.returns
returns c =
    let a = c.args in
    let l = c.loop-k in
    let f = along_end a.memory.now a.n a.s l.k l.state l.state l.invariant (omega (arith, c.loop-k-test.false)) in
    let all : l.k ≡ a.n = omega (arith, l.invariant.most, c.loop-k-test.false) in
    record { clocks_value = sym all ∙ f.clocks; state_value = f.state ∙ ap (λ (k : ℕ). iterate (chip_clock a.memory.now) k a.s) all }
