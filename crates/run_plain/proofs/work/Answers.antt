use mathlib.Core.Path.{refl, sym, ◌∙◌}
use native.Mathlib.Omega.{arith}
use Rattle.chip.specs.Range.{Bytes}
use Rattle.run_answer.specs.Run.{room_of}
use Rattle.run_answer.proofs.RunLaws.{held_length}
use Rattle.run_plain.proofs.GoingLaws.{going_start, going_size, going_few, going_low, going_on, free_most, spare_start, spare_low, spare_on, goes_before, goes_room}
use Rattle.run_plain.proofs.work.Goals as goal

pub free_until-until-requires : goal.free_until-until-requires
free_until-until-requires c = c.requires.count_bound

pub loop-next-init : goal.loop-next-init
loop-next-init c =
    let a = c.args in
    let free = c.free_until-until.ensures in (
      going_start a.memory.now a.s a.counts a.words.now (omega (arith, c.well_formed.1.1.0.1.0.1)),
      c.level-level.ensures,
      spare_start a.counts a.count _ c.requires.count_bound free,
      omega arith,
      free_most a.counts a.count _ free,
      refl,
    )

pub overflow_add-done : goal.overflow_add-done
overflow_add-done c = omega (arith, c.loop-next.invariant.3, c.loop-next.invariant.4, c.requires.count_bound)

pub slice_bounds-note-end : goal.slice_bounds-note-end
slice_bounds-note-end c =
    let a = c.args in
    let l = c.loop-next in
    sym (going_size a.memory.now a.s a.counts a.words.now l.words l.table l.state l.done l.n l.invariant.0)

pub note-m-requires : goal.note-m-requires
note-m-requires c =
    let a = c.args in
    let l = c.loop-next in
    let goes = sym c.goes.ensures ∙ c.loop-next-test.true in
    let before = goes_before l.done c.free_until-until.result l.n (room_of a.words.now) goes in
    let bytes : Bytes a.memory.now = λ i. omega (arith, c.type_inv.memory i) in record { n_bound = omega (arith, going_few a.memory.now a.s a.counts a.words.now l.words l.table l.state l.done l.n l.invariant.0, l.invariant.3, l.invariant.4, c.requires.count_bound); s_bound = (omega (arith, going_size a.memory.now a.s a.counts a.words.now l.words l.table l.state l.done l.n l.invariant.0, going_low a.memory.now a.s a.counts a.words.now l.words l.table l.state l.done l.n l.invariant.0 _ c.clocked-next.ensures bytes c.requires.s_value), going_size a.memory.now a.s a.counts a.words.now l.words l.table l.state l.done l.n l.invariant.0); s_bound_2 = spare_low c.free_until-until.result l.done l.table l.invariant.2 before _ }

pub overflow_add-first : goal.overflow_add-first
overflow_add-first c = omega (arith, c.loop-next.invariant.3, c.loop-next.invariant.4, c.requires.count_bound)

pub stretch-last-requires : goal.stretch-last-requires
stretch-last-requires c =
    let a = c.args in
    let l = c.loop-next in
    let goes = sym c.goes.ensures ∙ c.loop-next-test.true in
    let before = goes_before l.done c.free_until-until.result l.n (room_of a.words.now) goes in
    let bytes : Bytes a.memory.now = λ i. omega (arith, c.type_inv.memory i) in
    let note = c.note-m.ensures in record {
      begun = record {
        start = a.s;
        counts = a.counts;
        lent = a.words.now;
        ranged = c.requires.s_value;
        going =
            rw (note.value, note.words_after, note.table_after)
            (going_on a.memory.now a.s a.counts a.words.now l.words l.table l.state l.done l.n l.invariant.0 _ c.clocked-next.ensures _ _ c.level-after.ensures l.invariant.1
            (goes_room l.done c.free_until-until.result l.n (room_of a.words.now) goes) (spare_low c.free_until-until.result l.done l.table l.invariant.2 before _));
      };
      done_le_until = (omega (arith, before), omega (arith, l.invariant.4, c.requires.count_bound), c.level-after.ensures);
      spare = rw note.table_after (spare_on c.free_until-until.result l.done l.table l.invariant.2 before _ (going_low a.memory.now a.s a.counts a.words.now l.words l.table l.state l.done l.n l.invariant.0 _ c.clocked-next.ensures bytes c.requires.s_value));
    }

pub loop-next-smaller : goal.loop-next-smaller
loop-next-smaller c =
    let a = c.args in
    let l = c.loop-next in
    let goes = sym c.goes.ensures ∙ c.loop-next-test.true in
    let before = goes_before l.done c.free_until-until.result l.n (room_of a.words.now) goes in
    omega (arith, before, c.stretch-last.ensures.on)

pub loop-next-preserved : goal.loop-next-preserved
loop-next-preserved c =
    let a = c.args in
    let l = c.loop-next in
    let goes = sym c.goes.ensures ∙ c.loop-next-test.true in
    let before = goes_before l.done c.free_until-until.result l.n (room_of a.words.now) goes in
    let note = c.note-m.ensures in
    let r = c.stretch-last.ensures in (
      r.going a.s a.counts a.words.now
          (rw (note.value, note.words_after, note.table_after)
          (going_on a.memory.now a.s a.counts a.words.now l.words l.table l.state l.done l.n l.invariant.0 _ c.clocked-next.ensures _ _ c.level-after.ensures l.invariant.1
          (goes_room l.done c.free_until-until.result l.n (room_of a.words.now) goes) (spare_low c.free_until-until.result l.done l.table l.invariant.2 before _))),
      r.level,
      r.spare,
      r.most,
      l.invariant.4,
      l.invariant.5,
    )

pub rest-requires : goal.rest-requires
rest-requires c =
    let a = c.args in
    let l = c.loop-next in record { begun = record { start = a.s; counts = a.counts; lent = a.words.now; ranged = c.requires.s_value; going = l.invariant.0 }; from_le_count = (omega (arith, l.invariant.3, l.invariant.4), c.requires.count_bound) }

pub shape_of-words : goal.shape_of-words
shape_of-words c =
    let a = c.args in
    let l = c.loop-next in
    omega (arith, c.words-2-1.given, held_length a.memory.now a.s a.words.now l.words l.state l.done l.n l.invariant.0.held)

pub returns : goal.returns
returns c =
    let a = c.args in
    let l = c.loop-next in let pair = c.rest.ensures a.s a.counts a.words.now l.invariant.0 in record { value = pair.0; words_after = pair.1 }
