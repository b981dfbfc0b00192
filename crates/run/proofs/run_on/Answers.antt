use Prim.Native.Nat.{ℕ, ◌-◌, ◌≤◌}
use mathlib.Core.Path.{refl, sym, ap, ◌∙◌}
use native.Mathlib.Omega.{arith}
use lib.ListN.{length}
use Rattle.reading.proofs.CountingLaws.{tallied_none}
use Rattle.chip.specs.Level.{state_level}
use Rattle.chip.specs.Range.{Bytes}
use Rattle.chip.proofs.RangeLaws.{state_in_lem, state_back}
use Rattle.run_answer.specs.Run.{room_of}
use Rattle.run_answer.proofs.RunLaws.{held_length, held_few, held_ranged, held_end, held_early}
use Rattle.run_dwell.specs.Kept.{dwell_places}
use Rattle.run_walk.proofs.SettleLaws.{roomy_on, tally_on, tally_clock, clock_fits, clock_low}
use Rattle.run_loops.specs.Leap.{marked_records, marked_words}
use Rattle.run_loops.proofs.OwingLaws.{marked_length, marked_more, owing_start, owing_behind, full_behind}
use Rattle.run_loops.proofs.StretchLaws.{stretch_most}
use Rattle.run.proofs.run_on.Goals as goal

pub loop-done-init : goal.loop-done-init
loop-done-init c =
    let a = c.args in
    (owing_start a.memory.now a.s a.words.now _ c.level-level.ensures, omega arith, refl, sym (tallied_none (dwell_places a.memory.now a.s) a.table.now))

pub overflow_sub-count : goal.overflow_sub-count
overflow_sub-count c = omega (arith, c.loop-done.invariant.1)

pub next_stretch-g-requires : goal.next_stretch-g-requires
next_stretch-g-requires c =
    let a = c.args in
    let p = c.requires in
    let i = c.loop-done in
    let h = c.loop-done.invariant.0 in
    let bytes : Bytes a.memory.now = λ k. omega (arith, c.type_inv.memory k) in
    let few = held_few a.memory.now a.s a.words.now _ i.state i.done _ h in
    let same = held_length a.memory.now a.s a.words.now _ i.state i.done _ h in
    let marked = marked_length i.words i.n i.done (state_level i.state) i.level in
    let room : marked_records i.n (state_level i.state) i.level ≤ room_of i.words = omega (arith, h.most, same, marked) in record { s_value = state_back i.state (held_ranged a.memory.now a.s a.words.now _ i.state i.done _ h bytes (state_in_lem a.s p.s_value)); le_left = (omega (arith, c.loop-done-test.true), omega (arith, p.count_bound, i.invariant.1, c.loop-done-test.true)); was_bound = (few, room); roomy = roomy_on a.memory.now a.s a.words.now _ i.state i.done _ h a.table.now i.table i.invariant.3 a.count (a.count - i.done) p.roomy (omega (arith, i.invariant.1)) }

pub overflow_add-at : goal.overflow_add-at
overflow_add-at c =
    let a = c.args in
    let i = c.loop-done in
    let end = stretch_most (a.count - i.done) i.state in
    omega (arith, c.next_stretch-g.ensures.stretched.most, end.0, i.invariant.1, c.requires.count_bound, c.loop-done-test.true)

pub shape_of-words-then-full : goal.shape_of-words-then-full
shape_of-words-then-full c =
    let a = c.args in
    let x = c.next_stretch-g.ensures.stretched.held a.s a.words.now c.loop-done.invariant.0 in
    held_length a.memory.now a.s a.words.now _ _ _ _ x

pub returns-then-full : goal.returns-then-full
returns-then-full c =
    let a = c.args in
    let i = c.loop-done in
    let h = c.loop-done.invariant.0 in
    let sg = c.next_stretch-g.ensures in
    let end = stretch_most (a.count - i.done) i.state in
    let x = sg.stretched.held a.s a.words.now h in
    let f = rw i.invariant.2 at (sym c.stuck-full.ensures ∙ c.if-full.true) in
    let b = full_behind a.memory.now a.s a.words.now _ _ _ _ x _ c.clocked-next.ensures _ sg.stretched.level f in
    let z = held_early a.memory.now a.s a.words.now _ _ _ _ x a.count b.1 b.0 (omega (arith, sg.stretched.most, end.0, i.invariant.1, c.loop-done-test.true)) in record { value = z.0; words_after = z.1; table_after = tally_on a.memory.now a.s a.words.now _ i.state i.done _ h a.table.now i.table i.invariant.3 _ _ sg.table_after }

pub settle-requires : goal.settle-requires
settle-requires c =
    let a = c.args in
    let i = c.loop-done in
    let h = c.loop-done.invariant.0 in
    let bytes : Bytes a.memory.now = λ k. omega (arith, c.type_inv.memory k) in
    let sg = c.next_stretch-g.ensures in
    let end = stretch_most (a.count - i.done) i.state in
    let x = sg.stretched.held a.s a.words.now h in
    let t = tally_on a.memory.now a.s a.words.now _ i.state i.done _ h a.table.now i.table i.invariant.3 _ _ sg.table_after in record {
      level_bound = clock_low a.memory.now a.s a.words.now _ _ _ _ x a.table.now _ t _ c.clocked-next.ensures bytes (state_in_lem _ sg.stretched.ranged);
      clocks_bound = clock_fits a.memory.now a.s a.words.now _ _ _ _ x a.table.now _ t _ c.clocked-next.ensures a.count c.requires.roomy
          (omega (arith, sg.stretched.most, end.0, i.invariant.1, c.loop-done-test.true));
    }

pub overflow_add-done : goal.overflow_add-done
overflow_add-done c =
    let a = c.args in
    let i = c.loop-done in
    let end = stretch_most (a.count - i.done) i.state in
    omega (arith, c.next_stretch-g.ensures.stretched.most, end.0, i.invariant.1, c.requires.count_bound, c.loop-done-test.true)

pub loop-done-smaller : goal.loop-done-smaller
loop-done-smaller c =
    let a = c.args in
    let i = c.loop-done in
    let end = stretch_most (a.count - i.done) i.state in
    omega (arith, c.next_stretch-g.ensures.stretched.most, end.0, i.invariant.1, c.requires.count_bound, c.loop-done-test.true)

pub loop-done-preserved : goal.loop-done-preserved
loop-done-preserved c =
    let a = c.args in
    let i = c.loop-done in
    let h = c.loop-done.invariant.0 in
    let sg = c.next_stretch-g.ensures in
    let end = stretch_most (a.count - i.done) i.state in
    let x = sg.stretched.held a.s a.words.now h in
    let t = tally_on a.memory.now a.s a.words.now _ i.state i.done _ h a.table.now i.table i.invariant.3 _ _ sg.table_after in
    let f = rw i.invariant.2 at (sym c.stuck-full.ensures ∙ c.if-full.false) in (
      owing_behind a.memory.now a.s a.words.now _ _ _ _ x _ c.clocked-next.ensures _ sg.stretched.level f,
      omega (arith, sg.stretched.most, end.0, i.invariant.1, c.loop-done-test.true),
      i.invariant.2,
      c.settle.ensures ∙ tally_clock a.memory.now a.s a.words.now _ _ _ _ x a.table.now _ t _ c.clocked-next.ensures,
    )

pub mark-written-requires : goal.mark-written-requires
mark-written-requires c =
    let a = c.args in
    let i = c.loop-done in
    omega (arith, marked_more i.n (state_level i.state) i.level, held_few a.memory.now a.s a.words.now _ i.state i.done _ i.invariant.0, i.invariant.1, c.requires.count_bound)

pub shape_of-words : goal.shape_of-words
shape_of-words c =
    let a = c.args in
    let i = c.loop-done in
    ap length (c.mark-written.ensures.words_after ∙ ap (λ (x : ℕ). marked_words i.words i.n i.done x i.level) c.level-after.ensures)
    ∙ held_length a.memory.now a.s a.words.now _ i.state i.done _ i.invariant.0

pub returns : goal.returns
returns c =
    let a = c.args in
    let i = c.loop-done in
    let z = held_end a.memory.now a.s a.words.now _ i.state i.done _ i.invariant.0 a.count (omega (arith, i.invariant.1, c.loop-done-test.false)) in
    let n = c.mark-written.ensures.value ∙ ap (λ (x : ℕ). marked_records i.n x i.level) c.level-after.ensures in
    let w = c.mark-written.ensures.words_after ∙ ap (λ (x : ℕ). marked_words i.words i.n i.done x i.level) c.level-after.ensures in record { value = rw n z.0; words_after = w ∙ z.1; table_after = i.invariant.3 }
