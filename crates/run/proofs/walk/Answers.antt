use Prim.Native.Nat.{ℕ}
use mathlib.Core.Path.{◌≡◌, refl, ap, ◌∙◌}
use native.Mathlib.Omega.{arith}
use Rattle.chip.specs.Range.{Bytes}
use Rattle.chip.proofs.RangeLaws.{state_in_lem}
use Rattle.chip_dmc.specs.Clock.{dmc_timed, dmc_read}
use Rattle.chip_tables.specs.Table.{dmc_period}
use Rattle.leap_dmc.specs.Leap.{dmc_still, dmc_turned}
use Rattle.run_dwell.specs.Dwell.{dwell_limit}
use Rattle.run_dwell.proofs.WithinLaws.{within_most}
use Rattle.run_walk.specs.Walk.{last_at}
use Rattle.run_walk.proofs.WalkLaws.{turned_by, walk_start_lem, walk_place, walk_low, walk_last, walk_on, walk_full, walk_end}
use Rattle.run.proofs.walk.Goals as goal

pub loop-walked-init : goal.loop-walked-init
loop-walked-init c =
    let a = c.args in
    let bytes : Bytes a.memory.now = λ k. omega (arith, c.type_inv.memory k) in
    λ s h e f. rw e (walk_start_lem a.memory.now bytes s (state_in_lem s h) a.counts a.count (omega (arith, c.well_formed.1.1.0.1.0.1)) (within_most dwell_limit a.counts c.requires.counts_value))

pub overflow_cast-place : goal.overflow_cast-place
overflow_cast-place c =
    let a = c.args in
    let i = c.loop-walked in
    let bytes : Bytes a.memory.now = λ k. omega (arith, c.type_inv.memory k) in
    let r = state_in_lem a.s c.requires.s_value in
    let w = i.invariant a.s c.requires.s_value refl c.dmc_period-period.ensures in
    let b = c.loop-walked-test.true in
    let p = walk_place a.memory.now bytes a.s r a.counts a.count i.table i.d i.at i.walked w b in
    omega (arith, p)

pub overflow_sub-left : goal.overflow_sub-left
overflow_sub-left c =
    let a = c.args in
    let i = c.loop-walked in
    let bytes : Bytes a.memory.now = λ k. omega (arith, c.type_inv.memory k) in
    let r = state_in_lem a.s c.requires.s_value in
    let w = i.invariant a.s c.requires.s_value refl c.dmc_period-period.ensures in
    let b = c.loop-walked-test.true in
    let e : c.last_at-last.result ≡ last_at i.at (dmc_still (dmc_period a.s.pal a.s.dmc.registers.index) i.d) a.count =
    c.last_at-last.ensures ∙ ap (λ (x : ℕ). last_at i.at x a.count) (c.still_for.ensures ∙ ap (λ (x : ℕ). dmc_still x i.d) c.dmc_period-period.ensures) in
    let m = walk_last a.memory.now bytes a.s r a.counts a.count i.table i.d i.at i.walked w b _ e in
    omega (arith, m)

pub offset_bounds-table-place : goal.offset_bounds-table-place
offset_bounds-table-place c =
    let a = c.args in
    let i = c.loop-walked in
    let bytes : Bytes a.memory.now = λ k. omega (arith, c.type_inv.memory k) in
    let r = state_in_lem a.s c.requires.s_value in
    let w = i.invariant a.s c.requires.s_value refl c.dmc_period-period.ensures in
    let b = c.loop-walked-test.true in
    let p = walk_place a.memory.now bytes a.s r a.counts a.count i.table i.d i.at i.walked w b in
    omega (arith, p)

pub bounds-table-place : goal.bounds-table-place
bounds-table-place c =
    let a = c.args in
    let i = c.loop-walked in
    let bytes : Bytes a.memory.now = λ k. omega (arith, c.type_inv.memory k) in
    let r = state_in_lem a.s c.requires.s_value in
    let w = i.invariant a.s c.requires.s_value refl c.dmc_period-period.ensures in
    let b = c.loop-walked-test.true in
    let p = walk_place a.memory.now bytes a.s r a.counts a.count i.table i.d i.at i.walked w b in
    omega (arith, p)

pub overflow_sub-dwelt : goal.overflow_sub-dwelt
overflow_sub-dwelt c =
    let a = c.args in
    let i = c.loop-walked in
    let bytes : Bytes a.memory.now = λ k. omega (arith, c.type_inv.memory k) in
    let r = state_in_lem a.s c.requires.s_value in
    let w = i.invariant a.s c.requires.s_value refl c.dmc_period-period.ensures in
    let b = c.loop-walked-test.true in
    let q = walk_low a.memory.now bytes a.s r a.counts a.count i.table i.d i.at i.walked w b in
    omega (arith, q)

pub overflow_add-table : goal.overflow_add-table
overflow_add-table c =
    let a = c.args in
    let i = c.loop-walked in
    let bytes : Bytes a.memory.now = λ k. omega (arith, c.type_inv.memory k) in
    let r = state_in_lem a.s c.requires.s_value in
    let w = i.invariant a.s c.requires.s_value refl c.dmc_period-period.ensures in
    let b = c.loop-walked-test.true in
    let q = walk_low a.memory.now bytes a.s r a.counts a.count i.table i.d i.at i.walked w b in
    omega (arith, q, c.min-g.ensures)

pub offset_bounds-table-place-in-loop-walked : goal.offset_bounds-table-place-in-loop-walked
offset_bounds-table-place-in-loop-walked c =
    let a = c.args in
    let i = c.loop-walked in
    let bytes : Bytes a.memory.now = λ k. omega (arith, c.type_inv.memory k) in
    let r = state_in_lem a.s c.requires.s_value in
    let w = i.invariant a.s c.requires.s_value refl c.dmc_period-period.ensures in
    let b = c.loop-walked-test.true in
    let p = walk_place a.memory.now bytes a.s r a.counts a.count i.table i.d i.at i.walked w b in
    omega (arith, p)

pub bounds-table-place-in-loop-walked : goal.bounds-table-place-in-loop-walked
bounds-table-place-in-loop-walked c =
    let a = c.args in
    let i = c.loop-walked in
    let bytes : Bytes a.memory.now = λ k. omega (arith, c.type_inv.memory k) in
    let r = state_in_lem a.s c.requires.s_value in
    let w = i.invariant a.s c.requires.s_value refl c.dmc_period-period.ensures in
    let b = c.loop-walked-test.true in
    let p = walk_place a.memory.now bytes a.s r a.counts a.count i.table i.d i.at i.walked w b in
    omega (arith, p)

pub overflow_add-walked : goal.overflow_add-walked
overflow_add-walked c =
    let a = c.args in
    let i = c.loop-walked in
    let bytes : Bytes a.memory.now = λ k. omega (arith, c.type_inv.memory k) in
    let r = state_in_lem a.s c.requires.s_value in
    let w = i.invariant a.s c.requires.s_value refl c.dmc_period-period.ensures in
    let b = c.loop-walked-test.true in
    let e : c.last_at-last.result ≡ last_at i.at (dmc_still (dmc_period a.s.pal a.s.dmc.registers.index) i.d) a.count =
    c.last_at-last.ensures ∙ ap (λ (x : ℕ). last_at i.at x a.count) (c.still_for.ensures ∙ ap (λ (x : ℕ). dmc_still x i.d) c.dmc_period-period.ensures) in
    let m = walk_last a.memory.now bytes a.s r a.counts a.count i.table i.d i.at i.walked w b _ e in
    omega (arith, m, c.min-g.ensures, c.requires.count_bound)

pub returns-then-g-left : goal.returns-then-g-left
returns-then-g-left c =
    let a = c.args in
    let i = c.loop-walked in
    let bytes : Bytes a.memory.now = λ k. omega (arith, c.type_inv.memory k) in
    let r = state_in_lem a.s c.requires.s_value in
    let w = i.invariant a.s c.requires.s_value refl c.dmc_period-period.ensures in
    let b = c.loop-walked-test.true in
    let e : c.last_at-last.result ≡ last_at i.at (dmc_still (dmc_period a.s.pal a.s.dmc.registers.index) i.d) a.count =
    c.last_at-last.ensures ∙ ap (λ (x : ℕ). last_at i.at x a.count) (c.still_for.ensures ∙ ap (λ (x : ℕ). dmc_still x i.d) c.dmc_period-period.ensures) in
    let m = walk_last a.memory.now bytes a.s r a.counts a.count i.table i.d i.at i.walked w b _ e in
    let q = walk_low a.memory.now bytes a.s r a.counts a.count i.table i.d i.at i.walked w b in
    walk_full a.memory.now bytes a.s r a.counts a.count i.table i.d i.at i.walked w b _ e c.min-g.result (omega (arith, c.min-g.ensures)) (omega (arith, q, c.min-g.ensures))
    c.if-g-left.true (omega (arith, q, c.min-g.ensures, c.if-g-left.true))

pub overflow_add-at : goal.overflow_add-at
overflow_add-at c =
    let a = c.args in
    let i = c.loop-walked in
    let bytes : Bytes a.memory.now = λ k. omega (arith, c.type_inv.memory k) in
    let r = state_in_lem a.s c.requires.s_value in
    let w = i.invariant a.s c.requires.s_value refl c.dmc_period-period.ensures in
    let b = c.loop-walked-test.true in
    let e : c.last_at-last.result ≡ last_at i.at (dmc_still (dmc_period a.s.pal a.s.dmc.registers.index) i.d) a.count =
    c.last_at-last.ensures ∙ ap (λ (x : ℕ). last_at i.at x a.count) (c.still_for.ensures ∙ ap (λ (x : ℕ). dmc_still x i.d) c.dmc_period-period.ensures) in
    let m = walk_last a.memory.now bytes a.s r a.counts a.count i.table i.d i.at i.walked w b _ e in
    omega (arith, m, c.requires.count_bound)

pub loop-walked-smaller : goal.loop-walked-smaller
loop-walked-smaller c =
    let a = c.args in
    let i = c.loop-walked in
    let bytes : Bytes a.memory.now = λ k. omega (arith, c.type_inv.memory k) in
    let r = state_in_lem a.s c.requires.s_value in
    let w = i.invariant a.s c.requires.s_value refl c.dmc_period-period.ensures in
    let b = c.loop-walked-test.true in
    let e : c.last_at-last.result ≡ last_at i.at (dmc_still (dmc_period a.s.pal a.s.dmc.registers.index) i.d) a.count =
    c.last_at-last.ensures ∙ ap (λ (x : ℕ). last_at i.at x a.count) (c.still_for.ensures ∙ ap (λ (x : ℕ). dmc_still x i.d) c.dmc_period-period.ensures) in
    let m = walk_last a.memory.now bytes a.s r a.counts a.count i.table i.d i.at i.walked w b _ e in
    omega (arith, m, w.near b)

pub loop-walked-preserved : goal.loop-walked-preserved
loop-walked-preserved c =
    let a = c.args in
    let i = c.loop-walked in
    let bytes : Bytes a.memory.now = λ k. omega (arith, c.type_inv.memory k) in
    let b = c.loop-walked-test.true in
    λ s h z f.
    let r = state_in_lem s h in
    let w = i.invariant s h z f in
    let e : c.last_at-last.result ≡ last_at i.at (dmc_still (dmc_period s.pal s.dmc.registers.index) i.d) a.count =
    c.last_at-last.ensures ∙ ap (λ (x : ℕ). last_at i.at x a.count) (c.still_for.ensures ∙ ap (λ (x : ℕ). dmc_still x i.d) f) in
    let q = walk_low a.memory.now bytes s r a.counts a.count i.table i.d i.at i.walked w b in
    walk_on a.memory.now bytes s r a.counts a.count i.table i.d i.at i.walked w b _ e c.min-g.result
    (omega (arith, c.min-g.ensures)) (omega (arith, q, c.min-g.ensures)) (omega (arith, c.min-g.ensures, c.if-g-left.false))
    _ (c.fed-d.ensures
    ∙ ap (dmc_read a.memory.now) (c.timed-timed.ensures ∙ ap (dmc_timed c.dmc_period-period.result) c.at_brink-brink.ensures)
    ∙ turned_by a.memory.now c.dmc_period-period.result i.d
    ∙ ap (λ (x : ℕ). dmc_turned a.memory.now x i.d) f)

pub returns : goal.returns
returns c =
    let a = c.args in
    let i = c.loop-walked in
    let bytes : Bytes a.memory.now = λ k. omega (arith, c.type_inv.memory k) in
    walk_end a.memory.now bytes a.s (state_in_lem a.s c.requires.s_value) a.counts a.count i.table i.d i.at i.walked (i.invariant a.s c.requires.s_value refl c.dmc_period-period.ensures) c.loop-walked-test.false
