use mathlib.Core.Path.{refl, sym, ap, ◌∙◌}
use native.Mathlib.Omega.{arith}
use Rattle.chip.specs.Range.{Bytes}
use Rattle.run_answer.specs.Run.{room_of}
use Rattle.run_answer.proofs.RunLaws.{held_length}
use Rattle.run_plain.specs.declared.Heard.{Heard}
use Rattle.run_plain.proofs.CalmLaws.{calm_clock_lem}
use Rattle.run_plain.proofs.HeardLaws.{heard_is, heard_level, silence_level}
use Rattle.run_plain.proofs.GoingLaws.{going_size, going_few, going_low, going_on, spare_low, spare_on, goes_before, goes_room}
use Rattle.run_plain.proofs.stretch.Goals as goal

pub loop-heard-init : goal.loop-heard-init
loop-heard-init c =
    let p = c.requires in (
      λ s counts lent g. g,
      p.done_le_until.2,
      rw c.silent-heard.ensures silence_level,
      p.spare,
      omega arith,
      p.done_le_until.0,
      refl,
    )

pub note-n-requires : goal.note-n-requires
note-n-requires c =
    let a = c.args in
    let b = c.requires.begun in
    let l = c.loop-heard in
    let g = l.invariant.0 b.start b.counts b.lent b.going in
    let goes = sym c.goes.ensures ∙ c.loop-heard-test.true in
    let calm = sym c.is_calm.ensures ∙ c.if-is_calm.true in
    let next = c.calm_clocked-next.ensures ∙ calm_clock_lem a.memory.now l.state calm in
    let bytes : Bytes a.memory.now = λ i. omega (arith, c.type_inv.memory i) in record { n_bound = omega (arith, going_few a.memory.now b.start b.counts b.lent l.words l.table l.state l.done l.n g, l.invariant.5, c.requires.done_le_until.1); s_bound = (omega (arith, going_size a.memory.now b.start b.counts b.lent l.words l.table l.state l.done l.n g, going_low a.memory.now b.start b.counts b.lent l.words l.table l.state l.done l.n g _ next bytes b.ranged), going_size a.memory.now b.start b.counts b.lent l.words l.table l.state l.done l.n g); s_bound_2 = spare_low a.until l.done l.table l.invariant.3 (goes_before l.done a.until l.n (room_of a.words.now) goes) _ }

pub loop-heard-preserved : goal.loop-heard-preserved
loop-heard-preserved c =
    let a = c.args in
    let b = c.requires.begun in
    let l = c.loop-heard in
    let g = l.invariant.0 b.start b.counts b.lent b.going in
    let goes = sym c.goes.ensures ∙ c.loop-heard-test.true in
    let calm = sym c.is_calm.ensures ∙ c.if-is_calm.true in
    let next = c.calm_clocked-next.ensures ∙ calm_clock_lem a.memory.now l.state calm in
    let before = goes_before l.done a.until l.n (room_of a.words.now) goes in
    let bytes : Bytes a.memory.now = λ i. omega (arith, c.type_inv.memory i) in
    let level = ap (λ (x : Heard). x.level) c.heard_of-after.ensures ∙ heard_is _ in
    let note = c.note-n.ensures in (
      λ s counts lent h.
          let room = held_length a.memory.now s lent a.words.now a.first.state a.first.done a.first.records h.held in
          rw (note.value, note.words_after, note.table_after)
          (going_on a.memory.now s counts lent l.words l.table l.state l.done l.n (l.invariant.0 s counts lent h) _ next _ _ level l.invariant.1
          (omega (arith, goes_room l.done a.until l.n (room_of a.words.now) goes, l.invariant.6, room)) (spare_low a.until l.done l.table l.invariant.3 before _)),
      level,
      rw c.heard_of-after.ensures (heard_level _),
      rw note.table_after (spare_on a.until l.done l.table l.invariant.3 before _ (going_low a.memory.now b.start b.counts b.lent l.words l.table l.state l.done l.n g _ next bytes b.ranged)),
      omega (arith, l.invariant.4),
      omega (arith, before),
      l.invariant.6,
    )
