use mathlib.Core.Path.{◌≡◌, refl, ap, ◌∙◌}
use native.Mathlib.Omega.{arith}
use Rattle.chip.specs.Range.{Bytes}
use Rattle.leap_stretch.specs.Voices.{level_by, lags_with}
use Rattle.leap_stretch.specs.declared.Voices.{Voices}
use Rattle.leap_stretch.proofs.VoicesLaws.{sound_start, level_by_is}
use Rattle.run_loops.proofs.StretchLaws.{voices_none, voices_past, voices_worked, voices_now, voices_sound}
use Rattle.run.proofs.voices_on.Goals as goal

pub loop-others-init : goal.loop-others-init
loop-others-init c =
    let a = c.args in
    let p = c.requires in (
      λ s g. rw c.voices_of-v.ensures (voices_none a.memory.now s a.end a.base a.words.now a.first a.records g),
      refl,
      rw c.voices_of-v.ensures (sound_start a.first p.lagging.soon),
    )

pub overflow_cast-e : goal.overflow_cast-e
overflow_cast-e c =
    let a = c.args in
    let p = c.requires in
    let i = c.loop-others in
    let w = i.invariant.0 a.s p in
    let t = c.goes.ensures.next_lt_until c.loop-others-test.true in
    let u = c.voices_until-until.ensures.upper_bound in
    omega (arith, t.0, u.2, w.standing.far)

pub overflow_add-base : goal.overflow_add-base
overflow_add-base c =
    let a = c.args in
    let p = c.requires in
    let i = c.loop-others in
    let w = i.invariant.0 a.s p in
    let t = c.goes.ensures.next_lt_until c.loop-others-test.true in
    let u = c.voices_until-until.ensures.upper_bound in
    omega (arith, t.0, u.2, w.standing.far)

pub mark-n-requires : goal.mark-n-requires
mark-n-requires c =
    let a = c.args in
    let p = c.requires in
    let i = c.loop-others in
    let w = i.invariant.0 a.s p in
    omega (arith, w.standing.few, w.standing.now, w.standing.far)

pub loop-others-smaller : goal.loop-others-smaller
loop-others-smaller c =
    let a = c.args in
    let p = c.requires in
    let i = c.loop-others in
    let bytes : Bytes a.memory.now = λ k. omega (arith, c.type_inv.memory k) in
    let w = i.invariant.0 a.s p in
    let t = c.goes.ensures.next_lt_until c.loop-others-test.true in
    let u = c.voices_until-until.ensures.upper_bound in
    let x = voices_worked a.memory.now bytes a.s a.end a.base a.first.now a.records a.words.now i.words a.first i.v i.level i.n w
    i.invariant.2 (omega (arith, t.0, u.2)) (omega (arith, t.0, u.0)) (omega (arith, t.0, u.1)) (omega (arith, t.1, i.invariant.1, w.same_length))
    _ _ c.renewed-r.ensures _ (c.level-after.ensures ∙ ap (level_by c.renewed-r.result) c.others_of-others.ensures ∙ level_by_is _ a.first)
    _ _ c.mark-n.ensures.value c.mark-n.ensures.words_after
    in
    let q = voices_past a.memory.now bytes a.s a.end a.base a.first.now a.records a.words.now _ a.first _ _ _ x in
    let z : c.renewed-r.result.now ≡ i.v.next =
    ap (λ (y : Voices). y.now) c.renewed-r.ensures ∙ voices_now i.v _ i.v.next
    in
    omega (arith, t.0, u.2, z, q)

pub loop-others-preserved : goal.loop-others-preserved
loop-others-preserved c =
    let a = c.args in
    let p = c.requires in
    let i = c.loop-others in
    let bytes : Bytes a.memory.now = λ k. omega (arith, c.type_inv.memory k) in
    let w = i.invariant.0 a.s p in
    let t = c.goes.ensures.next_lt_until c.loop-others-test.true in
    let u = c.voices_until-until.ensures.upper_bound in (
      λ s g. voices_worked a.memory.now bytes s a.end a.base a.first.now a.records a.words.now i.words a.first i.v i.level i.n (i.invariant.0 s g)
          i.invariant.2 (omega (arith, t.0, u.2)) (omega (arith, t.0, u.0)) (omega (arith, t.0, u.1)) (omega (arith, t.1, i.invariant.1, w.same_length))
          _ _ c.renewed-r.ensures _ (c.level-after.ensures ∙ ap (level_by c.renewed-r.result) c.others_of-others.ensures ∙ level_by_is _ a.first)
          _ _ c.mark-n.ensures.value c.mark-n.ensures.words_after,
      i.invariant.1,
      voices_sound i.v i.invariant.2 _ _ c.renewed-r.ensures,
    )

pub shape_of-words : goal.shape_of-words
shape_of-words c =
    let a = c.args in
    let p = c.requires in
    let i = c.loop-others in
    let w = i.invariant.0 a.s p in
    w.same_length

pub returns : goal.returns
unfolding lags_with
returns c =
    let a = c.args in
    let p = c.requires in
    let i = c.loop-others in
    let w = i.invariant.0 a.s p in rw c.lags_with-l.ensures (record { worked = w; dmc_value = refl })
