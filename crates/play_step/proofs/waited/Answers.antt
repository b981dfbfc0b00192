use mathlib.Core.Path.{refl, sym, ap, ◌∙◌}
use mathlib.Core.List.{List, ◌++◌}
use native.Mathlib.Omega.{arith}
use Prim.Native.Nat.{ℕ, ◌*◌}
use lib.ListN.{drop}
use lib.Seq.{length-take-le}
use Rattle.play_step.proofs.PortionLaws.{room_low, portion_long, portion_low, portion_done, portion_all}
use Rattle.play_step.proofs.waited.Goals as goal

pub overflow_mul-end : goal.overflow_mul-end
overflow_mul-end c = omega (arith, room_low _ _ _ c.room-end.ensures)

pub slice_bounds-uncounted-end : goal.slice_bounds-uncounted-end
slice_bounds-uncounted-end c = omega (arith, room_low _ _ _ c.room-end.ensures, c.requires.1)

pub slice_bounds-uncounted-end-2 : goal.slice_bounds-uncounted-end-2
slice_bounds-uncounted-end-2 c = sym (length-take-le _ c.args.words.now (omega (arith, room_low _ _ _ c.room-end.ensures, c.requires.1)))

pub last_level-last-requires : goal.last_level-last-requires
last_level-last-requires c =
    let a = c.args in
    let k = c.room-end in
    let r = c.uncounted-ran in
    let e = rw c.from.ensures at r.ensures.value in
    let l = ap (λ (x : List ℕ). x ++ drop (2 * k.result) a.words.now) (rw c.from.ensures at r.ensures.words_after) in record { n_in_bounds = portion_long a.memory.now a.p a.at a.out.now a.words.now c.requires.1 k.result k.ensures r.result e (r.new.words ++ drop (2 * k.result) a.words.now) l; n_bound = portion_low a.memory.now a.p a.at a.out.now a.words.now c.requires.1 k.result k.ensures r.result e (r.new.words ++ drop (2 * k.result) a.words.now) l }

pub behind-requires : goal.behind-requires
behind-requires c =
    let a = c.args in
    let k = c.room-end in
    let r = c.uncounted-ran in
    let e = rw c.from.ensures at r.ensures.value in
    let l = ap (λ (x : List ℕ). x ++ drop (2 * k.result) a.words.now) (rw c.from.ensures at r.ensures.words_after) in
    let d = portion_done a.memory.now a.p a.at a.out.now a.words.now c.requires.1 k.result k.ensures r.result e (r.new.words ++ drop (2 * k.result) a.words.now) l in
    (d, omega (arith, d, c.requires.0))

pub shape_of-out : goal.shape_of-out
shape_of-out c = omega (arith, c.out-1.given)

pub shape_of-words : goal.shape_of-words
shape_of-words c = omega (arith, c.words-1.given)

pub returns : goal.returns
returns c =
    let a = c.args in
    let k = c.room-end in
    let r = c.uncounted-ran in
    let e = rw c.from.ensures at r.ensures.value in
    let l = ap (λ (x : List ℕ). x ++ drop (2 * k.result) a.words.now) (rw c.from.ensures at r.ensures.words_after) in
    let v = c.level_lines-next in rw (← k.ensures)
    (let pair = portion_all a.memory.now a.p a.at a.out.now a.words.now c.requires.1 k.result k.ensures r.result e (r.new.words ++ drop (2 * k.result) a.words.now) l c.requires.0 c.outcome.result
    (c.outcome.ensures ∙ rw (c.behind.ensures, c.kind_of-kind.ensures, c.last_level-last.ensures, v.ensures.value) refl) v.new.out v.ensures.out_after in record { value = pair.0; out_after = pair.1 })
