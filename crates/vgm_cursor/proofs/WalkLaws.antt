-- From a place of a file whose stream ends there, the steps give the acts of the stream, one after the other, and then the end. Assumes nothing.
use Prim.Native.Nat.{ℕ, zero, suc, ◌+◌, ◌-◌, ◌/◌, ◌%◌, ◌≤◌, ◌<◌, min}
use mathlib.Core.Path.{◌≡◌, refl, sym, ap, ◌∙◌}
use mathlib.Core.Bool.{Bool, true, false}
use mathlib.Core.List.{List, [], ◌∷◌}
use native.Mathlib.Nat.{zero-add}
use native.Mathlib.Omega.{arith}
use lib.Dec.{eqb, ltb, leb}
use lib.ListN.{length, drop, length-drop}
use borrow.Author.Tests.{eqb-true, eqb-false, eq-eqb, ne_eqb, ltb-true, ltb-false, le-leb}
use Rattle.arith.specs.Iterate.{iterate}
use Rattle.arith.proofs.IterateLaws.{iterate_more}
use Rattle.arith.proofs.PickLaws.{pick_both}
use Rattle.bus.specs.declared.Access.TheVariants.{Write as Written}
use Rattle.log_line.specs.declared.Act.TheVariants.{Wait as Waited, Access}
use Rattle.log_rules.specs.Tree.{Tree, end, act, acts}
use Rattle.reading.specs.Saying.{over, on, says, Gives}
use Rattle.reading.proofs.SayingLaws.{within, by_says, by_on, by_over}
use Rattle.vgm_stream.specs.declared.Await.TheVariants.{Command}
use Rattle.vgm_stream.specs.declared.Said.{Said}
use Rattle.vgm_stream.specs.declared.Said.TheVariants.{Wait, Write}
use Rattle.vgm_stream.specs.Stream.{ended, stream_from, stream_of}
use Rattle.vgm_measure.specs.Import.{stood, rest, gap, acts_from, samples_in, tree_for, clocks_for}
use Rattle.vgm_measure.proofs.BoundLaws.{stood_few, stood_more}
use Rattle.vgm_cursor.specs.declared.Spot.{Spot}
use Rattle.std.specs.Prelude.{Ok, Err, None, Some}
use Rattle.vgm_cursor.specs.Walking.{Read, command_at, spot_of, Go, go, gap_at, wait_on, move_on, command_step, step_of}
use Rattle.vgm_cursor.proofs.CommandLaws.{command_ends, command_says, from_place, few_commands, Onward, command_onward}

-- A GAP: its first wait, and the gap that is left

gap_none : (t : Tree) → gap 0 t ≡ t
unfolding gap rest iterate
gap_none t = refl

gap_short : (g : ℕ) (t : Tree) → 0 < g → g < 1000000 → gap g t ≡ act (Waited g) t
unfolding gap rest iterate
gap_short g t h i =
    let d : g / 1000000 ≡ 0 = omega arith in
    let m : g % 1000000 ≡ g = omega arith in
    rw (d, m, ne_eqb g 0 (λ z. omega arith))

gap_long : (g : ℕ) (t : Tree) → 1000000 ≤ g → gap g t ≡ act (Waited 1000000) (gap (g - 1000000) t)
unfolding gap
gap_long g t h =
    let d : g / 1000000 ≡ (g - 1000000) / 1000000 + 1 = omega arith in
    let m : g % 1000000 ≡ (g - 1000000) % 1000000 = omega arith in
    rw (d, m) (iterate_more (act (Waited 1000000)) ((g - 1000000) / 1000000) (rest ((g - 1000000) % 1000000) t))

gap_more : (g : ℕ) (t : Tree) → 0 < g → gap g t ≡ act (Waited (min g 1000000)) (gap (g - min g 1000000) t)
gap_more g t h = by (ltb g 1000000) refl
  where
    by : (b : Bool) → ltb g 1000000 ≡ b → gap g t ≡ act (Waited (min g 1000000)) (gap (g - min g 1000000) t)
    by true e =
        let i = ltb-true g 1000000 e in
        let m : min g 1000000 ≡ g = omega arith in
        let z : g - g ≡ 0 = omega arith in
        rw (m, z) (gap_short g t h i ∙ ap (act (Waited g)) (sym (gap_none t)))
    by false e =
        let i = ltb-false g 1000000 e in
        let m : min g 1000000 ≡ 1000000 = omega arith in
        rw m (gap_long g t i)

module _ (pal : Bool) (file : List ℕ) where
  -- what waits as long as its clock has not come
  abbrev Waits : Read → Type 0
  Waits r = (c : Spot) → (gap_at pal c ≡ 0 → ⊥) → command_step pal c r ≡ wait_on pal c

  end_waits : Waits (Ok None)
  unfolding command_step
  end_waits c h = rw (ne_eqb (gap_at pal c) 0 h)

  write_waits : (r v p : ℕ) → Waits (Ok (Some (Write r v, p)))
  unfolding command_step
  write_waits r v p c h = rw (ne_eqb (gap_at pal c) 0 h)

  -- STEPS
  module _ (at s h : ℕ) where
    wait_said : Waits (command_at file at) → s ≤ 100000000 → 0 < stood pal s - h
        → let n = min (stood pal s - h) 1000000 in step_of pal file (spot_of at s h) ≡ go (says (Waited n)) (spot_of at s (h + n))
    unfolding step_of wait_on gap_at
    wait_said w i j = w (spot_of at s h) (λ z. omega arith) ∙ rw (le-leb s 100000000 i)

    move_said : (n p : ℕ) → command_at file at ≡ Ok (Some (Wait n, p)) → s + n ≤ 100000000 → step_of pal file (spot_of at s h) ≡ go on (spot_of p (s + n) h)
    unfolding step_of command_step move_on
    move_said n p e i = rw (e, le-leb (s + n) 100000000 i)

    write_said : (r v p : ℕ) → command_at file at ≡ Ok (Some (Write r v, p)) → stood pal s - h ≡ 0
        → step_of pal file (spot_of at s h) ≡ go (says (Access (Written r v))) (spot_of p s h)
    unfolding step_of command_step gap_at
    write_said r v p e z = rw (e, eq-eqb (stood pal s - h) 0 z)

    end_said : command_at file at ≡ (Ok None) → stood pal s - h ≡ 0 → step_of pal file (spot_of at s h) ≡ go over (spot_of at s h)
    unfolding step_of command_step gap_at
    end_said e z = rw (e, eq-eqb (stood pal s - h) 0 z)

  -- a gap gives its waits, and then what is behind it
  module _ (at s : ℕ) (t : Tree) (k : ℕ) (w : Waits (command_at file at)) (few : s ≤ 100000000)
      (tail : Gives (step_of pal file) (spot_of at s (stood pal s)) (acts t) (k + length (acts t))) where
    gap_over : (h : ℕ) → h ≤ stood pal s → stood pal s - h ≡ 0
        → Gives (step_of pal file) (spot_of at s h) (acts (gap (stood pal s - h) t)) (k + length (acts (gap (stood pal s - h) t)))
    gap_over h i z = let e : h ≡ stood pal s = omega arith in rw (z, gap_none, e) tail

    gap_gives : (m h : ℕ) → stood pal s - h ≤ m → h ≤ stood pal s
        → Gives (step_of pal file) (spot_of at s h) (acts (gap (stood pal s - h) t)) (k + length (acts (gap (stood pal s - h) t)))
    unfolding acts
    gap_gives zero h j i = gap_over h i (omega arith)
    gap_gives (suc m) h j i = by (eqb (stood pal s - h) 0) refl (gap_gives m (h + min (stood pal s - h) 1000000))
      where
        n : ℕ
        n = min (stood pal s - h) 1000000

        by : (b : Bool) → eqb (stood pal s - h) 0 ≡ b
            → (stood pal s - (h + n) ≤ m → h + n ≤ stood pal s → Gives (step_of pal file) (spot_of at s (h + n)) (acts (gap (stood pal s - (h + n)) t)) (k + length (acts (gap (stood pal s - (h + n)) t))))
            → Gives (step_of pal file) (spot_of at s h) (acts (gap (stood pal s - h) t)) (k + length (acts (gap (stood pal s - h) t)))
        by true e ih = gap_over h i (eqb-true (stood pal s - h) 0 e)
        by false e ih =
            let z = eqb-false (stood pal s - h) 0 e in
            let more : 0 < stood pal s - h = omega arith in
            let left : stood pal s - h - n ≡ stood pal s - (h + n) = omega arith in
            let first : acts (gap (stood pal s - h) t) ≡ Waited n ∷ acts (gap (stood pal s - (h + n)) t) =
            ap acts (gap_more (stood pal s - h) t more) ∙ ap (λ (g : ℕ). Waited n ∷ acts (gap g t)) left in
            rw first (by_says (step_of pal file) _ (wait_said at s h w few more) (ih (omega arith) (omega arith)) (omega arith))

  -- THE STEPS GIVE THE ACTS: a step for each command, for each act, and for the end, at most
  pub walk_gives : (l : List Said) (at s h : ℕ) → stream_from Command at (drop at file) ≡ ended l → stood pal (s + samples_in l) ≤ 2000000000 → h ≤ stood pal s
      → Gives (step_of pal file) (spot_of at s h) (acts (acts_from pal s h l)) (length l + 1 + length (acts (acts_from pal s h l)))
  unfolding acts acts_from samples_in
  walk_gives [] at s h e i j =
      let r = command_ends file at e in
      let m = stood_few pal (s + 0) i in
      gap_gives at s end 1 (rw r end_waits) (omega arith) (by_over (step_of pal file) _ (end_said at s (stood pal s) r (omega arith)) (omega arith)) (stood pal s - h) h (omega arith) j
  walk_gives (Wait n ∷ l) at s h e i j =
      let c = command_says file at (Wait n) l e in
      let m = stood_few pal (s + (n + samples_in l)) i in
      let k = stood_more pal s n in
      let q : s + (n + samples_in l) ≡ s + n + samples_in l = omega arith in
      by_on (step_of pal file) _ (move_said at s h n c.place c.is (omega arith)) (walk_gives l c.place (s + n) h c.behind (rw q at i) (omega arith)) (omega arith)
  walk_gives (Write r v ∷ l) at s h e i j =
      let c = command_says file at (Write r v) l e in
      let m = stood_few pal (s + samples_in l) i in
      within (step_of pal file) _ (omega arith)
      (gap_gives at s (act (Access (Written r v)) (acts_from pal s (stood pal s) l)) (length l + 1) (rw c.is (write_waits r v c.place)) (omega arith)
      (by_says (step_of pal file) _ (write_said at s (stood pal s) r v c.place c.is (omega arith))
      (walk_gives l c.place s (stood pal s) c.behind i (omega arith))
      (omega arith))
      (stood pal s - h) h (omega arith) j)

  -- from the beginning of a stream at a place of the file
  pub stream_gives : (at : ℕ) (l : List Said) → stream_of (drop at file) ≡ ended l → clocks_for pal l ≤ 2000000000
      → Gives (step_of pal file) (spot_of at 0 0) (acts (tree_for pal l)) (length file - at + 1 + length (acts (tree_for pal l)))
  unfolding clocks_for tree_for
  stream_gives at l e i =
      let p = from_place file at l e in
      let f = few_commands (drop at file) at l p in
      let z = zero-add (samples_in l) in
      within (step_of pal file) _ (omega (arith, length-drop at file)) (walk_gives l at 0 0 p (rw z i) (omega arith))

-- NO STEP LEADS BACK
module _ (pal : Bool) (c : Spot) where
  -- where a spot is behind the place of c, or at it
  abbrev After : Go → Type 0
  After t = c.at ≤ t.state.at

  wait_after : After (wait_on pal c)
  unfolding wait_on
  wait_after = pick_both After (leb c.samples 100000000) (omega arith) (omega arith)

  step_after : (r : Read) → Onward c.at r → After (command_step pal c r)
  unfolding command_step move_on
  step_after (Ok None) h = pick_both After (eqb (gap_at pal c) 0) (omega arith) wait_after
  step_after (Err x) h = omega arith
  step_after (Ok (Some (Wait n, p))) h = pick_both After (leb (c.samples + n) 100000000) h (omega arith)
  step_after (Ok (Some (Write r v, p))) h = pick_both After (eqb (gap_at pal c) 0) h wait_after

  pub step_onward : (file : List ℕ) → c.at ≤ (step_of pal file c).state.at
  unfolding step_of
  step_onward file = step_after (command_at file c.at) (command_onward file c.at)
