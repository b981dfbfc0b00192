use Prim.Native.Nat.{ℕ}
use mathlib.Core.Path.{◌≡◌, refl, sym, ap, ◌∙◌}
use mathlib.Core.Bool.{true}
use native.Mathlib.Omega.{arith}
use Rattle.arith.specs.Iterate.{iterate}
use Rattle.arith.proofs.IterateLaws.{iterate_zero}
use Rattle.chip.specs.Clock.{chip_clock}
use Rattle.play_walk.proofs.ClockLaws.{nearer}
use Rattle.play_walk.proofs.runs_on.Goals as goal

pub loop-left-init : goal.loop-left-init
loop-left-init c = (c.requires.memory_len.1, refl, refl)

pub overflow_sub-left : goal.overflow_sub-left
overflow_sub-left c =
    let a = c.args in
    let l = c.loop-left in
    let r = c.uncounted-r in
    let e = rw c.min.ensures at r.ensures.value in
    let n = nearer a.memory.now l.state l.left l.words r.result c.requires.memory_len.0 (λ i. omega (arith, c.type_inv.memory i)) l.invariant.0 (omega (arith, l.invariant.1, c.requires.in_bounds)) c.loop-left-test.true e in
    omega (arith, c.from-left.ensures, n.most)

pub loop-left-smaller : goal.loop-left-smaller
loop-left-smaller c =
    let a = c.args in
    let l = c.loop-left in
    let r = c.uncounted-r in
    let e = rw c.min.ensures at r.ensures.value in
    let n = nearer a.memory.now l.state l.left l.words r.result c.requires.memory_len.0 (λ i. omega (arith, c.type_inv.memory i)) l.invariant.0 (omega (arith, l.invariant.1, c.requires.in_bounds)) c.loop-left-test.true e in
    omega (arith, c.from-left.ensures, n.some, n.most)

pub loop-left-preserved : goal.loop-left-preserved
loop-left-preserved c =
    let a = c.args in
    let l = c.loop-left in
    let r = c.uncounted-r in
    let e = rw c.min.ensures at r.ensures.value in
    let n = nearer a.memory.now l.state l.left l.words r.result c.requires.memory_len.0 (λ i. omega (arith, c.type_inv.memory i)) l.invariant.0 (omega (arith, l.invariant.1, c.requires.in_bounds)) c.loop-left-test.true e in
    (n.ranged, omega (arith, c.words-1.given, l.invariant.1), rw c.from-left.ensures (n.same ∙ l.invariant.2))

pub shape_of-words : goal.shape_of-words
shape_of-words c = c.loop-left.invariant.1

pub returns : goal.returns
returns c =
    let l = c.loop-left in
    let f = chip_clock c.args.memory.now in
    let z : l.left ≡ 0 = omega (arith, c.loop-left-test.false) in record { value = sym (ap (λ (k : ℕ). iterate f k l.state) z ∙ iterate_zero f l.state) ∙ l.invariant.2; result_value = l.invariant.0 }
