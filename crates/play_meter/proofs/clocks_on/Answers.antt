use mathlib.Core.Path.{◌≡◌, refl, sym, ◌∙◌}
use mathlib.Core.Bool.{true}
use native.Mathlib.Omega.{arith}
use Rattle.play_meter.proofs.RunLaws.{onward, clocks_none}
use Rattle.play_meter.proofs.clocks_on.Goals as goal

pub loop-left-init : goal.loop-left-init
loop-left-init c = (c.requires.memory_len.1, refl, refl)

pub overflow_sub-left : goal.overflow_sub-left
overflow_sub-left c =
    let l = c.loop-left in
    let r = c.uncounted-r in
    let e = rw c.min.ensures at r.ensures.value in
    let f = rw c.min.ensures at r.ensures.words_after in
    let o = onward c.args.memory.now l.state l.heard l.left l.words _ r.result c.requires.memory_len.0 l.invariant.0 (λ i. omega (arith, c.type_inv.memory i)) (omega (arith, l.invariant.1, c.requires.in_bounds)) c.loop-left-test.true e f in
    omega (arith, c.from-left.ensures, o.most)

pub loop-left-smaller : goal.loop-left-smaller
loop-left-smaller c =
    let l = c.loop-left in
    let r = c.uncounted-r in
    let e = rw c.min.ensures at r.ensures.value in
    let f = rw c.min.ensures at r.ensures.words_after in
    let o = onward c.args.memory.now l.state l.heard l.left l.words _ r.result c.requires.memory_len.0 l.invariant.0 (λ i. omega (arith, c.type_inv.memory i)) (omega (arith, l.invariant.1, c.requires.in_bounds)) c.loop-left-test.true e f in
    omega (arith, c.from-left.ensures, o.some, o.most)

pub loop-left-preserved : goal.loop-left-preserved
loop-left-preserved c =
    let l = c.loop-left in
    let r = c.uncounted-r in
    let e = rw c.min.ensures at r.ensures.value in
    let f = rw c.min.ensures at r.ensures.words_after in
    let o = onward c.args.memory.now l.state l.heard l.left l.words _ r.result c.requires.memory_len.0 l.invariant.0 (λ i. omega (arith, c.type_inv.memory i)) (omega (arith, l.invariant.1, c.requires.in_bounds)) c.loop-left-test.true e f in
    (o.ranged, omega (arith, c.words-1.given, l.invariant.1), rw (c.from-left.ensures, c.with_records-heard.ensures) (o.same ∙ l.invariant.2))

pub shape_of-words : goal.shape_of-words
shape_of-words c = c.loop-left.invariant.1

pub returns : goal.returns
returns c =
    let l = c.loop-left in
    let z : l.left ≡ 0 = omega (arith, c.loop-left-test.false) in record { value = c.heard_of.ensures ∙ (sym (clocks_none c.args.memory.now l.left l.state l.heard z) ∙ l.invariant.2); state_value = rw c.heard_of.ensures l.invariant.0 }
