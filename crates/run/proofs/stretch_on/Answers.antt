use Prim.Native.Nat.{ℕ, ◌+◌, ◌-◌, ◌≤◌}
use mathlib.Core.Path.{◌≡◌, refl, sym, ap, ◌∙◌}
use mathlib.Core.List.{List}
use native.Mathlib.Omega.{arith}
use lib.ListN.{length}
use Rattle.reading.proofs.CountingLaws.{tallied, tallied_none}
use Rattle.chip.specs.Level.{state_level}
use Rattle.chip.specs.Range.{Bytes}
use Rattle.chip.specs.declared.State.{State}
use Rattle.chip.proofs.RangeLaws.{StateRanged, state_in_lem, dmc_period_range}
use Rattle.leap_stretch.specs.Lagged.{lags_at, lags_of}
use Rattle.leap_stretch.specs.declared.Lags.{Lags}
use Rattle.leap_stretch.proofs.DmcLaws.{dmc_out}
use Rattle.leap_stretch.proofs.LaggedLaws.{Lagging, lagging_start, next_most}
use Rattle.run_dwell.specs.Kept.{dwell_places}
use Rattle.run_walk.specs.Settle.{Settled}
use Rattle.run_walk.proofs.SettleLaws.{settled_by, settle_is, settle_fits}
use Rattle.run_loops.specs.Leap.{marked_records, marked_words}
use Rattle.run_loops.proofs.OwingLaws.{level_start, marked_length, marked_more}
use Rattle.run_loops.proofs.StretchLaws.{untouched_start, untouched_goes, untouched_passed, worked_start, worked_on, worked_event, worked_stop, past, event_now}
use Rattle.run.proofs.stretch_on.Goals as goal

-- settled up to the clock before that to which the channels are kept, or further
settled_at : (memory : List ℕ) → Bytes memory → (s : State) → StateRanged s → (before table : List ℕ) (l : Lags) → Lagging memory s l → (settled : ℕ)
    → l.now ≤ settled + 1 → table ≡ tallied (dwell_places memory s) settled before → Settled memory s before table l.dmc settled
settled_at memory bytes s r before table l g settled h e =
    let n = dmc_period_range s.pal s.dmc.registers.index in
    settled_by memory bytes s r before table l.dmc settled l.now h g.dmc.follows.ahead
    (λ k from to. dmc_out memory bytes _ n.0 n.1 s.dmc r.dmc l.now l.dmc g.dmc k from to) e

settled_none : (memory : List ℕ) → Bytes memory → (s : State) → StateRanged s → (table : List ℕ) → Settled memory s table table (lags_of s).dmc 0
unfolding lags_of lags_at
settled_none memory bytes s r table =
    settled_at memory bytes s r table table (lags_of s) (lagging_start memory s) 0 (omega arith) (sym (tallied_none (dwell_places memory s) table))

pub mark-n-requires : goal.mark-n-requires
mark-n-requires c =
    let a = c.args in
    let p = c.requires in
    omega (arith, marked_more a.records (state_level a.s) a.was, p.end_bound_2, p.was_bound.0)

-- the record at the stretch's start
owed : (s : State) (words : List ℕ) (records base was level : ℕ) → level ≡ state_level s → (n : ℕ) (after : List ℕ)
    → n ≡ marked_records records level was → after ≡ marked_words words records base level was
    → (n ≡ marked_records records (state_level s) was) × (after ≡ marked_words words records base (state_level s) was)
owed s words records base was level e n after p q =
    (p ∙ ap (λ (x : ℕ). marked_records records x was) e, q ∙ ap (λ (x : ℕ). marked_words words records base x was) e)

pub loop-e-init : goal.loop-e-init
loop-e-init c =
    let a = c.args in
    let p = c.requires in
    let bytes : Bytes a.memory.now = λ k. omega (arith, c.type_inv.memory k) in
    let e : c.lags_of-l.result.level ≡ state_level a.s = ap (λ (x : Lags). x.level) c.lags_of-l.ensures ∙ level_start a.memory.now bytes a.s p.s_value in
    let o = owed a.s a.words.now a.records a.base a.was _ e _ _ c.mark-n.ensures.value c.mark-n.ensures.words_after in
    let same = marked_length a.words.now a.records a.base (state_level a.s) a.was in (
      rw c.lags_of-l.ensures
          (worked_start a.memory.now a.s a.end a.base _ _ p.s_value p.end_bound p.end_bound_2 (omega (arith, o.0, p.was_bound.0)) (omega (arith, o.0, ap length o.1, same, p.was_bound.1))),
      refl,
      λ q. untouched_start a.s _ _ _ c.lags_of-l.ensures,
      rw c.lags_of-l.ensures (settled_none a.memory.now bytes a.s (state_in_lem a.s p.s_value) a.table.now),
      omega arith,
    )

pub overflow_add-from : goal.overflow_add-from
overflow_add-from c = omega (arith, c.loop-e.invariant.0.standing.far)

pub overflow_cast-e : goal.overflow_cast-e
overflow_cast-e c =
    let w = c.loop-e.invariant.0 in
    let t = c.goes.ensures.next_lt_until c.loop-e-test.true in
    omega (arith, t.0, w.standing.far)

pub overflow_sub-e : goal.overflow_sub-e
overflow_sub-e c =
    let a = c.args in
    let i = c.loop-e in
    let bytes : Bytes a.memory.now = λ k. omega (arith, c.type_inv.memory k) in
    let q = past a.memory.now bytes a.s a.end a.base 0 _ _ _ _ _ i.invariant.0 in
    omega (arith, q)

pub overflow_sub-e-in-loop-e : goal.overflow_sub-e-in-loop-e
overflow_sub-e-in-loop-e c =
    let a = c.args in
    let i = c.loop-e in
    let bytes : Bytes a.memory.now = λ k. omega (arith, c.type_inv.memory k) in
    let q = past a.memory.now bytes a.s a.end a.base 0 _ _ _ _ _ i.invariant.0 in
    omega (arith, q, i.invariant.4)

pub settle-requires : goal.settle-requires
settle-requires c =
    let a = c.args in
    let p = c.requires in
    let i = c.loop-e in
    let w = c.loop-e.invariant.0 in
    let t = c.goes.ensures.next_lt_until c.loop-e-test.true in
    let bytes : Bytes a.memory.now = λ k. omega (arith, c.type_inv.memory k) in
    let q = past a.memory.now bytes a.s a.end a.base 0 _ _ _ _ _ w in
    let m = next_most a.memory.now a.s i.l w.standing.lagging in record {
      level_bound = i.invariant.3.low;
      clocks_bound = settle_fits a.memory.now a.s a.table.now i.table a.end p.roomy i.l.dmc i.settled i.invariant.3 (i.l.next - 1)
          (omega (arith, q, i.invariant.4)) (omega (arith, q, m.dmc)) (omega (arith, t.0));
    }

pub overflow_sub-settled : goal.overflow_sub-settled
overflow_sub-settled c =
    let a = c.args in
    let i = c.loop-e in
    let bytes : Bytes a.memory.now = λ k. omega (arith, c.type_inv.memory k) in
    let q = past a.memory.now bytes a.s a.end a.base 0 _ _ _ _ _ i.invariant.0 in
    omega (arith, q)

pub overflow_add-base : goal.overflow_add-base
overflow_add-base c =
    let w = c.loop-e.invariant.0 in
    let t = c.goes.ensures.next_lt_until c.loop-e-test.true in
    omega (arith, t.0, w.standing.far)

pub mark-m-requires : goal.mark-m-requires
mark-m-requires c =
    let w = c.loop-e.invariant.0 in
    omega (arith, w.standing.few, w.standing.now, w.standing.far)

pub sounds_on-p-requires : goal.sounds_on-p-requires
sounds_on-p-requires c =
    let a = c.args in
    let i = c.loop-e in
    let w = c.loop-e.invariant.0 in
    let t = c.goes.ensures.next_lt_until c.loop-e-test.true in
    let bytes : Bytes a.memory.now = λ k. omega (arith, c.type_inv.memory k) in
    let v = worked_event a.memory.now bytes a.s a.end a.base 0 _ _ i.words i.l i.n w (omega (arith, t.0)) (omega (arith, t.1, i.invariant.1, w.same_length)) _ c.renew-r.ensures _ _ c.mark-m.ensures.value c.mark-m.ensures.words_after in
    v.standing

pub loop-e-smaller : goal.loop-e-smaller
loop-e-smaller c =
    let a = c.args in
    let i = c.loop-e in
    let w = c.loop-e.invariant.0 in
    let t = c.goes.ensures.next_lt_until c.loop-e-test.true in
    let bytes : Bytes a.memory.now = λ k. omega (arith, c.type_inv.memory k) in
    let v = worked_event a.memory.now bytes a.s a.end a.base 0 _ _ i.words i.l i.n w (omega (arith, t.0)) (omega (arith, t.1, i.invariant.1, w.same_length)) _ c.renew-r.ensures _ _ c.mark-m.ensures.value c.mark-m.ensures.words_after in
    let x = worked_on a.memory.now a.s a.end a.base 0 _ _ _ _ _ _ _ _ v c.sounds_on-p.ensures.worked in
    let q = past a.memory.now bytes a.s a.end a.base 0 _ _ _ _ _ x in
    let z : c.renew-r.result.now ≡ i.l.next = ap (λ (x : Lags). x.now) c.renew-r.ensures ∙ event_now a.memory.now i.l i.l.next in
    omega (arith, t.0, z, q, c.sounds_on-p.ensures.worked.on)

pub loop-e-preserved : goal.loop-e-preserved
loop-e-preserved c =
    let a = c.args in
    let p = c.requires in
    let i = c.loop-e in
    let w = c.loop-e.invariant.0 in
    let t = c.goes.ensures.next_lt_until c.loop-e-test.true in
    let bytes : Bytes a.memory.now = λ k. omega (arith, c.type_inv.memory k) in
    let v = worked_event a.memory.now bytes a.s a.end a.base 0 _ _ i.words i.l i.n w (omega (arith, t.0)) (omega (arith, t.1, i.invariant.1, w.same_length)) _ c.renew-r.ensures _ _ c.mark-m.ensures.value c.mark-m.ensures.words_after in
    let q = past a.memory.now bytes a.s a.end a.base 0 _ _ _ _ _ w in
    let m = next_most a.memory.now a.s i.l w.standing.lagging in
    let z : c.renew-r.result.now ≡ i.l.next = ap (λ (x : Lags). x.now) c.renew-r.ensures ∙ event_now a.memory.now i.l i.l.next in (
      worked_on a.memory.now a.s a.end a.base 0 _ _ _ _ _ _ _ _ v c.sounds_on-p.ensures.worked,
      i.invariant.1,
      λ q. untouched_goes a.memory.now a.s a.end a.base 0 _ _ i.words i.l i.n w q (i.invariant.2 q) (omega (arith, t.0)),
      rw c.sounds_on-p.ensures.dmc_value
          (settled_at a.memory.now bytes a.s (state_in_lem a.s p.s_value) a.table.now _ c.renew-r.result v.standing.lagging (i.l.next - 1) (omega (arith, z, q))
          (c.settle.ensures ∙ settle_is a.memory.now a.s a.table.now i.table a.end p.roomy i.l.dmc i.settled i.invariant.3 (i.l.next - 1)
          (omega (arith, q, i.invariant.4)) (omega (arith, q, m.dmc)) (omega (arith, t.0)))),
      omega (arith, z, c.sounds_on-p.ensures.worked.on),
    )

pub brink-stop-requires : goal.brink-stop-requires
brink-stop-requires c =
    let a = c.args in
    let bytes : Bytes a.memory.now = λ k. omega (arith, c.type_inv.memory k) in
    let q = past a.memory.now bytes a.s a.end a.base 0 _ _ _ _ _ c.loop-e.invariant.0 in
    omega (arith, q)

pub overflow_sub-stop : goal.overflow_sub-stop
overflow_sub-stop c =
    let a = c.args in
    let i = c.loop-e in
    let w = c.loop-e.invariant.0 in
    let bytes : Bytes a.memory.now = λ k. omega (arith, c.type_inv.memory k) in
    let q = past a.memory.now bytes a.s a.end a.base 0 _ _ _ _ _ w in
    c.brink-stop.ensures.by_index i.settled (omega (arith, i.invariant.4, w.standing.now)) (omega (arith, q, i.invariant.4))

pub settle-requires-2 : goal.settle-requires-2
settle-requires-2 c =
    let a = c.args in
    let p = c.requires in
    let i = c.loop-e in
    let w = c.loop-e.invariant.0 in
    let bytes : Bytes a.memory.now = λ k. omega (arith, c.type_inv.memory k) in
    let q = past a.memory.now bytes a.s a.end a.base 0 _ _ _ _ _ w in
    let m = next_most a.memory.now a.s i.l w.standing.lagging in
    let k = c.brink-stop.ensures in record {
      level_bound = i.invariant.3.low;
      clocks_bound = settle_fits a.memory.now a.s a.table.now i.table a.end p.roomy i.l.dmc i.settled i.invariant.3 c.brink-stop.result
          (k.by_index i.settled (omega (arith, i.invariant.4, w.standing.now)) (omega (arith, q, i.invariant.4))) (omega (arith, k.upper_bound.1, m.dmc)) k.upper_bound.0;
    }

pub shape_of-words : goal.shape_of-words
shape_of-words c =
    let a = c.args in
    let p = c.requires in
    let bytes : Bytes a.memory.now = λ k. omega (arith, c.type_inv.memory k) in
    let e : c.lags_of-l.result.level ≡ state_level a.s = ap (λ (x : Lags). x.level) c.lags_of-l.ensures ∙ level_start a.memory.now bytes a.s p.s_value in
    let o = owed a.s a.words.now a.records a.base a.was _ e _ _ c.mark-n.ensures.value c.mark-n.ensures.words_after in
    c.loop-e.invariant.0.same_length ∙ ap length o.1 ∙ marked_length a.words.now a.records a.base (state_level a.s) a.was

pub returns : goal.returns
returns c =
    let a = c.args in
    let p = c.requires in
    let i = c.loop-e in
    let w = c.loop-e.invariant.0 in
    let bytes : Bytes a.memory.now = λ k. omega (arith, c.type_inv.memory k) in
    let q = past a.memory.now bytes a.s a.end a.base 0 _ _ _ _ _ w in
    let m = next_most a.memory.now a.s i.l w.standing.lagging in
    let k = c.brink-stop.ensures in
    let e : c.lags_of-l.result.level ≡ state_level a.s = ap (λ (x : Lags). x.level) c.lags_of-l.ensures ∙ level_start a.memory.now bytes a.s p.s_value in
    let o = owed a.s a.words.now a.records a.base a.was _ e _ _ c.mark-n.ensures.value c.mark-n.ensures.words_after in record {
      stretched = rw (c.state_at-last.ensures, ← o.0, ← o.1)
          (worked_stop a.memory.now bytes a.s a.end a.base 0 _ _ i.words i.l i.n w c.brink-stop.result
          (k.by_index i.l.now w.standing.now q) k.upper_bound.1 k.upper_bound.0 refl
          (λ h. untouched_passed a.memory.now a.s a.end a.base 0 _ _ i.words i.l i.n w h (i.invariant.2 h) c.brink-stop.result k.upper_bound.0 (k.by_index a.end (omega arith))));
      table_after = c.settle-2.ensures ∙ settle_is a.memory.now a.s a.table.now i.table a.end p.roomy i.l.dmc i.settled i.invariant.3 c.brink-stop.result
          (k.by_index i.settled (omega (arith, i.invariant.4, w.standing.now)) (omega (arith, q, i.invariant.4))) (omega (arith, k.upper_bound.1, m.dmc)) k.upper_bound.0;
    }
