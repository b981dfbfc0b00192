use mathlib.Core.Path.{◌≡◌, refl, sym, ◌∙◌}
use mathlib.Core.Bool.{true}
use native.Mathlib.Omega.{arith}
use Rattle.chip.specs.Range.{Bytes}
use Rattle.play_dwell.proofs.RunLaws.{onward, clocks_none}
use Rattle.play_dwell.proofs.clocks_on.Goals as goal

pub loop-left-init : goal.loop-left-init
loop-left-init c = let p = c.requires in (p.memory_len.1, refl, p.counts_len.0, p.counts_len.1, refl)

pub overflow_sub-left : goal.overflow_sub-left
overflow_sub-left c =
    let l = c.loop-left in
    let e = rw c.min.ensures at c.run-r.ensures.value in
    let bytes : Bytes c.args.memory.now = λ i. omega (arith, c.type_inv.memory i) in
    let w = onward c.args.memory.now l.state l.table l.left l.words c.run-r.result c.requires.memory_len.0 l.invariant.0 l.invariant.3 e in
    let o = w bytes l.invariant.2 (omega (arith, l.invariant.1, c.requires.in_bounds)) c.loop-left-test.true in
    omega (arith, c.from-left.ensures, o.most)

pub loop-left-smaller : goal.loop-left-smaller
loop-left-smaller c =
    let l = c.loop-left in
    let e = rw c.min.ensures at c.run-r.ensures.value in
    let bytes : Bytes c.args.memory.now = λ i. omega (arith, c.type_inv.memory i) in
    let w = onward c.args.memory.now l.state l.table l.left l.words c.run-r.result c.requires.memory_len.0 l.invariant.0 l.invariant.3 e in
    let o = w bytes l.invariant.2 (omega (arith, l.invariant.1, c.requires.in_bounds)) c.loop-left-test.true in
    omega (arith, c.from-left.ensures, o.some, o.most)

pub loop-left-preserved : goal.loop-left-preserved
loop-left-preserved c =
    let l = c.loop-left in
    let e = rw c.min.ensures at c.run-r.ensures.value in
    let bytes : Bytes c.args.memory.now = λ i. omega (arith, c.type_inv.memory i) in
    let w = onward c.args.memory.now l.state l.table l.left l.words c.run-r.result c.requires.memory_len.0 l.invariant.0 l.invariant.3 e in
    let o = w bytes l.invariant.2 (omega (arith, l.invariant.1, c.requires.in_bounds)) c.loop-left-test.true in (
      o.ranged,
      omega (arith, c.words-1.given, l.invariant.1),
      o.size,
      omega (arith, c.from-left.ensures, o.most, o.total, l.invariant.3),
      rw c.from-left.ensures (o.same ∙ l.invariant.4),
    )

pub shape_of-words : goal.shape_of-words
shape_of-words c = c.loop-left.invariant.1

pub returns : goal.returns
returns c =
    let l = c.loop-left in
    let z : l.left ≡ 0 = omega (arith, c.loop-left-test.false) in
    let none = clocks_none c.args.memory.now l.left l.state l.table z in record { value = c.dwelt_of.ensures ∙ (sym none ∙ l.invariant.4); state_value = rw c.dwelt_of.ensures l.invariant.0 }
