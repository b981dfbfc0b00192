use mathlib.Core.Path.{refl, sym, ap, ◌∙◌}
use native.Mathlib.Omega.{arith}
use Rattle.chip.specs.Level.{state_level}
use Rattle.chip.specs.Range.{Bytes}
use Rattle.run_answer.proofs.RunLaws.{held_at, held_length, held_same, held_mark, held_end, held_early}
use Rattle.run_dwell.proofs.KeptLaws.{kept_on, kept_stopped, kept_end}
use Rattle.run_plain.proofs.GoingLaws.{going_size, going_few, going_low}
use Rattle.run_plain.proofs.rest.Goals as goal

pub loop-done-init : goal.loop-done-init
loop-done-init c = (λ s counts lent g. g, c.level-level.ensures, c.requires.from_le_count.0, refl)

pub overflow_cast-place : goal.overflow_cast-place
overflow_cast-place c =
    let a = c.args in
    let b = c.requires.begun in
    let l = c.loop-done in
    let g = l.invariant.0 b.start b.counts b.lent b.going in
    let bytes : Bytes a.memory.now = λ i. omega (arith, c.type_inv.memory i) in
    omega (arith, going_size a.memory.now b.start b.counts b.lent l.words l.table l.state l.done l.n g, going_low a.memory.now b.start b.counts b.lent l.words l.table l.state l.done l.n g _ c.clocked-next.ensures bytes b.ranged)

pub offset_bounds-table-place : goal.offset_bounds-table-place
offset_bounds-table-place c =
    let a = c.args in
    let b = c.requires.begun in
    let l = c.loop-done in
    let g = l.invariant.0 b.start b.counts b.lent b.going in
    let bytes : Bytes a.memory.now = λ i. omega (arith, c.type_inv.memory i) in
    omega (arith, going_size a.memory.now b.start b.counts b.lent l.words l.table l.state l.done l.n g, going_low a.memory.now b.start b.counts b.lent l.words l.table l.state l.done l.n g _ c.clocked-next.ensures bytes b.ranged)

pub bounds-table-place : goal.bounds-table-place
bounds-table-place c =
    let a = c.args in
    let b = c.requires.begun in
    let l = c.loop-done in
    let g = l.invariant.0 b.start b.counts b.lent b.going in
    let bytes : Bytes a.memory.now = λ i. omega (arith, c.type_inv.memory i) in
    omega (arith, going_size a.memory.now b.start b.counts b.lent l.words l.table l.state l.done l.n g, going_low a.memory.now b.start b.counts b.lent l.words l.table l.state l.done l.n g _ c.clocked-next.ensures bytes b.ranged)

pub shape_of-words-then-dwelt-ge4000000000 : goal.shape_of-words-then-dwelt-ge4000000000
shape_of-words-then-dwelt-ge4000000000 c =
    let a = c.args in
    let b = c.requires.begun in
    let l = c.loop-done in
    let g = l.invariant.0 b.start b.counts b.lent b.going in
    held_length a.memory.now b.start b.lent l.words l.state l.done l.n g.held
    ∙ sym (held_length a.memory.now b.start b.lent a.words.now a.s a.from a.records b.going.held)

pub returns-then-dwelt-ge4000000000 : goal.returns-then-dwelt-ge4000000000
returns-then-dwelt-ge4000000000 c =
    let a = c.args in
    let l = c.loop-done in
    λ s counts lent g.
    let h = l.invariant.0 s counts lent g in
    kept_stopped a.memory.now s counts lent l.words l.state l.done l.n h.held l.table h.kept _ c.clocked-next.ensures a.count l.invariant.2 c.if-dwelt-ge4000000000.true

pub overflow_add-table : goal.overflow_add-table
overflow_add-table c = omega (arith, c.if-dwelt-ge4000000000.false)

pub offset_bounds-table-place-then-after-level : goal.offset_bounds-table-place-then-after-level
offset_bounds-table-place-then-after-level c =
    let a = c.args in
    let b = c.requires.begun in
    let l = c.loop-done in
    let g = l.invariant.0 b.start b.counts b.lent b.going in
    let bytes : Bytes a.memory.now = λ i. omega (arith, c.type_inv.memory i) in
    omega (arith, going_size a.memory.now b.start b.counts b.lent l.words l.table l.state l.done l.n g, going_low a.memory.now b.start b.counts b.lent l.words l.table l.state l.done l.n g _ c.clocked-next.ensures bytes b.ranged)

pub bounds-table-place-then-after-level : goal.bounds-table-place-then-after-level
bounds-table-place-then-after-level c =
    let a = c.args in
    let b = c.requires.begun in
    let l = c.loop-done in
    let g = l.invariant.0 b.start b.counts b.lent b.going in
    let bytes : Bytes a.memory.now = λ i. omega (arith, c.type_inv.memory i) in
    omega (arith, going_size a.memory.now b.start b.counts b.lent l.words l.table l.state l.done l.n g, going_low a.memory.now b.start b.counts b.lent l.words l.table l.state l.done l.n g _ c.clocked-next.ensures bytes b.ranged)

pub overflow_add-done : goal.overflow_add-done
overflow_add-done c = omega (arith, c.loop-done.invariant.2, c.requires.from_le_count.1, c.loop-done-test)

pub loop-done-smaller-then-after-level : goal.loop-done-smaller-then-after-level
loop-done-smaller-then-after-level c = omega (arith, c.loop-done.invariant.2, c.loop-done-test)

pub loop-done-preserved-then-after-level : goal.loop-done-preserved-then-after-level
loop-done-preserved-then-after-level c =
    let a = c.args in
    let l = c.loop-done in
    let e = sym (c.level-after.ensures ∙ ap state_level c.clocked-next.ensures) in (
      λ s counts lent g.
          let h = l.invariant.0 s counts lent g in
          record {
            held = held_at (sym c.clocked-next.ensures) refl (held_same a.memory.now s lent l.words l.state l.done l.n h.held (e ∙ c.if-after-level.true ∙ l.invariant.1));
            kept = kept_on a.memory.now s counts lent l.words l.state l.done l.n h.held l.table h.kept _ c.clocked-next.ensures (omega (arith, c.if-dwelt-ge4000000000.false));
          },
      sym c.if-after-level.true ∙ c.level-after.ensures,
      omega (arith, c.loop-done-test),
      l.invariant.3,
    )

pub overflow_cast-at : goal.overflow_cast-at
overflow_cast-at c =
    let a = c.args in
    let b = c.requires.begun in
    let l = c.loop-done in
    let g = l.invariant.0 b.start b.counts b.lent b.going in
    omega (arith, l.invariant.2, c.requires.from_le_count.1, going_few a.memory.now b.start b.counts b.lent l.words l.table l.state l.done l.n g)

pub shape_of-words-then-room-at : goal.shape_of-words-then-room-at
shape_of-words-then-room-at c =
    let a = c.args in
    let b = c.requires.begun in
    let l = c.loop-done in
    let g = l.invariant.0 b.start b.counts b.lent b.going in
    held_length a.memory.now b.start b.lent l.words l.state l.done l.n g.held
    ∙ sym (held_length a.memory.now b.start b.lent a.words.now a.s a.from a.records b.going.held)

pub returns-then-room-at : goal.returns-then-room-at
returns-then-room-at c =
    let a = c.args in
    let l = c.loop-done in
    λ s counts lent g.
    let h = l.invariant.0 s counts lent g in
    kept_end a.memory.now s counts lent l.words l.state l.done l.n h.held l.table h.kept a.count
    (held_early a.memory.now s lent l.words l.state l.done l.n h.held a.count
    (λ q. c.if-after-level.false ((c.level-after.ensures ∙ ap state_level c.clocked-next.ensures) ∙ q ∙ sym l.invariant.1))
    (omega (arith, c.if-room-at.true, l.invariant.3, held_length a.memory.now s lent a.words.now a.s a.from a.records g.held)) l.invariant.2)

pub overflow_add-done-else-after-level : goal.overflow_add-done-else-after-level
overflow_add-done-else-after-level c = omega (arith, c.loop-done.invariant.2, c.requires.from_le_count.1, c.loop-done-test)

pub overflow_add-table-else-after-level : goal.overflow_add-table-else-after-level
overflow_add-table-else-after-level c = omega (arith, c.if-dwelt-ge4000000000.false)

pub offset_bounds-table-place-else-after-level : goal.offset_bounds-table-place-else-after-level
offset_bounds-table-place-else-after-level c =
    let a = c.args in
    let b = c.requires.begun in
    let l = c.loop-done in
    let g = l.invariant.0 b.start b.counts b.lent b.going in
    let bytes : Bytes a.memory.now = λ i. omega (arith, c.type_inv.memory i) in
    omega (arith, going_size a.memory.now b.start b.counts b.lent l.words l.table l.state l.done l.n g, going_low a.memory.now b.start b.counts b.lent l.words l.table l.state l.done l.n g _ c.clocked-next.ensures bytes b.ranged)

pub bounds-table-place-else-after-level : goal.bounds-table-place-else-after-level
bounds-table-place-else-after-level c =
    let a = c.args in
    let b = c.requires.begun in
    let l = c.loop-done in
    let g = l.invariant.0 b.start b.counts b.lent b.going in
    let bytes : Bytes a.memory.now = λ i. omega (arith, c.type_inv.memory i) in
    omega (arith, going_size a.memory.now b.start b.counts b.lent l.words l.table l.state l.done l.n g, going_low a.memory.now b.start b.counts b.lent l.words l.table l.state l.done l.n g _ c.clocked-next.ensures bytes b.ranged)

pub overflow_add-done-else-after-level-2 : goal.overflow_add-done-else-after-level-2
overflow_add-done-else-after-level-2 c = omega (arith, c.loop-done.invariant.2, c.requires.from_le_count.1, c.loop-done-test)

pub overflow_add-n : goal.overflow_add-n
overflow_add-n c =
    let a = c.args in
    let b = c.requires.begun in
    let l = c.loop-done in
    let g = l.invariant.0 b.start b.counts b.lent b.going in
    omega (arith, l.invariant.2, c.requires.from_le_count.1, c.loop-done-test, going_few a.memory.now b.start b.counts b.lent l.words l.table l.state l.done l.n g)

pub loop-done-smaller : goal.loop-done-smaller
loop-done-smaller c = omega (arith, c.loop-done.invariant.2, c.loop-done-test)

pub loop-done-preserved : goal.loop-done-preserved
loop-done-preserved c =
    let a = c.args in
    let l = c.loop-done in (
      λ s counts lent g.
          let h = l.invariant.0 s counts lent g in
          record {
            held =
                rw (c.put.ensures, c.from.ensures, c.level-after.ensures, c.clocked-next.ensures)
                (held_mark a.memory.now s lent l.words l.state l.done l.n h.held
                (λ q. c.if-after-level.false ((c.level-after.ensures ∙ ap state_level c.clocked-next.ensures) ∙ q ∙ sym l.invariant.1))
                (omega (arith, c.if-room-at.false, l.invariant.3, held_length a.memory.now s lent a.words.now a.s a.from a.records g.held)));
            kept = kept_on a.memory.now s counts lent l.words l.state l.done l.n h.held l.table h.kept _ c.clocked-next.ensures (omega (arith, c.if-dwelt-ge4000000000.false));
          },
      c.level-after.ensures,
      omega (arith, c.loop-done-test),
      l.invariant.3,
    )

pub shape_of-words : goal.shape_of-words
shape_of-words c =
    let a = c.args in
    let b = c.requires.begun in
    let l = c.loop-done in
    let g = l.invariant.0 b.start b.counts b.lent b.going in
    held_length a.memory.now b.start b.lent l.words l.state l.done l.n g.held
    ∙ sym (held_length a.memory.now b.start b.lent a.words.now a.s a.from a.records b.going.held)

pub returns : goal.returns
returns c =
    let a = c.args in
    let l = c.loop-done in
    λ s counts lent g.
    let h = l.invariant.0 s counts lent g in
    kept_end a.memory.now s counts lent l.words l.state l.done l.n h.held l.table h.kept a.count (held_end a.memory.now s lent l.words l.state l.done l.n h.held a.count (omega (arith, l.invariant.2, c.loop-done-test)))
