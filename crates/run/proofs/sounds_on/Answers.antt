use Prim.Native.Nat.{ℕ}
use mathlib.Core.Path.{◌≡◌, refl, ap, ◌∙◌}
use native.Mathlib.Omega.{arith}
use Rattle.chip.specs.Range.{Bytes}
use Rattle.leap_stretch.specs.Lagged.{lags_at, renewed_with, sounds_renewed}
use Rattle.leap_stretch.specs.declared.Lags.{Lags}
use Rattle.leap_stretch.proofs.WaitLaws.{sounds_renewed_lem}
use Rattle.run_loops.proofs.StretchLaws.{worked_none, worked_on, worked_event, past, event_now}
use Rattle.run.proofs.sounds_on.Goals as goal

sounds_dmc : (l : Lags) (e : ℕ) → (sounds_renewed l e).dmc ≡ l.dmc
unfolding sounds_renewed renewed_with lags_at
sounds_dmc l e = refl

pub loop-s-init : goal.loop-s-init
loop-s-init c =
    let a = c.args in
    (worked_none a.memory.now a.s a.end a.base a.words.now a.first a.records c.requires, refl, refl)

pub overflow_cast-e : goal.overflow_cast-e
overflow_cast-e c =
    let a = c.args in
    let p = c.requires in
    let i = c.loop-s in
    let w = c.loop-s.invariant.0 in
    let t = c.goes.ensures.next_lt_until c.loop-s-test.true in
    let u = c.sounds_until.ensures.upper_bound in
    omega (arith, t.0, u.1, w.standing.far)

pub overflow_add-base : goal.overflow_add-base
overflow_add-base c =
    let a = c.args in
    let p = c.requires in
    let i = c.loop-s in
    let w = c.loop-s.invariant.0 in
    let t = c.goes.ensures.next_lt_until c.loop-s-test.true in
    let u = c.sounds_until.ensures.upper_bound in
    omega (arith, t.0, u.1, w.standing.far)

pub mark-m-requires : goal.mark-m-requires
mark-m-requires c =
    let a = c.args in
    let p = c.requires in
    let i = c.loop-s in
    let w = c.loop-s.invariant.0 in
    let t = c.goes.ensures.next_lt_until c.loop-s-test.true in
    let u = c.sounds_until.ensures.upper_bound in
    omega (arith, w.standing.few, w.standing.now, w.standing.far)

pub voices_on-p-requires : goal.voices_on-p-requires
voices_on-p-requires c =
    let a = c.args in
    let p = c.requires in
    let i = c.loop-s in
    let w = c.loop-s.invariant.0 in
    let t = c.goes.ensures.next_lt_until c.loop-s-test.true in
    let u = c.sounds_until.ensures.upper_bound in
    let bytes : Bytes a.memory.now = λ k. omega (arith, c.type_inv.memory k) in
    let v = worked_event a.memory.now bytes a.s a.end a.base a.first.now a.records a.words.now i.words i.l i.n w (omega (arith, t.0, u.1)) (omega (arith, t.1, i.invariant.1, w.same_length)) _ (c.renew_sounds-r.ensures ∙ sounds_renewed_lem a.memory.now i.l i.l.next (omega (arith, t.0, u.0))) _ _ c.mark-m.ensures.value c.mark-m.ensures.words_after in
    v.standing

pub loop-s-smaller : goal.loop-s-smaller
loop-s-smaller c =
    let a = c.args in
    let p = c.requires in
    let i = c.loop-s in
    let w = c.loop-s.invariant.0 in
    let t = c.goes.ensures.next_lt_until c.loop-s-test.true in
    let u = c.sounds_until.ensures.upper_bound in
    let bytes : Bytes a.memory.now = λ k. omega (arith, c.type_inv.memory k) in
    let v = worked_event a.memory.now bytes a.s a.end a.base a.first.now a.records a.words.now i.words i.l i.n w (omega (arith, t.0, u.1)) (omega (arith, t.1, i.invariant.1, w.same_length)) _ (c.renew_sounds-r.ensures ∙ sounds_renewed_lem a.memory.now i.l i.l.next (omega (arith, t.0, u.0))) _ _ c.mark-m.ensures.value c.mark-m.ensures.words_after in
    let x = worked_on a.memory.now a.s a.end a.base a.first.now a.records a.words.now _ _ _ _ _ _ v c.voices_on-p.ensures.worked in
    let q = past a.memory.now bytes a.s a.end a.base a.first.now a.records a.words.now _ _ _ x in
    let z : c.renew_sounds-r.result.now ≡ i.l.next =
    ap (λ (x : Lags). x.now) (c.renew_sounds-r.ensures ∙ sounds_renewed_lem a.memory.now i.l i.l.next (omega (arith, t.0, u.0))) ∙ event_now a.memory.now i.l i.l.next
    in
    omega (arith, t.0, u.1, z, q, c.voices_on-p.ensures.worked.on)

pub loop-s-preserved : goal.loop-s-preserved
loop-s-preserved c =
    let a = c.args in
    let p = c.requires in
    let i = c.loop-s in
    let w = c.loop-s.invariant.0 in
    let t = c.goes.ensures.next_lt_until c.loop-s-test.true in
    let u = c.sounds_until.ensures.upper_bound in
    let bytes : Bytes a.memory.now = λ k. omega (arith, c.type_inv.memory k) in
    let v = worked_event a.memory.now bytes a.s a.end a.base a.first.now a.records a.words.now i.words i.l i.n w (omega (arith, t.0, u.1)) (omega (arith, t.1, i.invariant.1, w.same_length)) _ (c.renew_sounds-r.ensures ∙ sounds_renewed_lem a.memory.now i.l i.l.next (omega (arith, t.0, u.0))) _ _ c.mark-m.ensures.value c.mark-m.ensures.words_after in
    (worked_on a.memory.now a.s a.end a.base a.first.now a.records a.words.now _ _ _ _ _ _ v c.voices_on-p.ensures.worked, i.invariant.1, c.voices_on-p.ensures.dmc_value ∙ ap (λ (x : Lags). x.dmc) c.renew_sounds-r.ensures ∙ sounds_dmc i.l i.l.next ∙ i.invariant.2)

pub shape_of-words : goal.shape_of-words
shape_of-words c =
    let a = c.args in
    let p = c.requires in
    let i = c.loop-s in
    let w = c.loop-s.invariant.0 in
    w.same_length

pub returns : goal.returns
returns c =
    let a = c.args in
    let p = c.requires in
    let i = c.loop-s in
    let w = c.loop-s.invariant.0 in record { worked = w; dmc_value = i.invariant.2 }
