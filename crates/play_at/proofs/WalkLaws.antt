-- The walk of a log that passes: act by act to what the whole list leads to. Assumes nothing.
use Prim.Native.Nat.{ℕ, ◌+◌, ◌-◌, ◌≤◌, ◌<◌}
use mathlib.Core.Path.{◌≡◌, refl, sym, ap, ◌∙◌}
use mathlib.Core.Bool.{Bool, true, false}
use mathlib.Core.List.{List}
use native.Mathlib.Omega.{arith}
use lib.Dec.{ltb}
use lib.ListN.{length}
use borrow.Author.Tests.{lt-ltb, le-ltb, eq-eqb, ne_eqb}
use Rattle.arith.specs.Iterate.{iterate}
use Rattle.arith.specs.Pick.{pick}
use Rattle.log_line.specs.declared.Act.{Act}
use Rattle.recording.specs.Whole.{machine_of}
use Rattle.log_rules.specs.Tree.{acts}
use Rattle.recording.specs.Whole.{tree_of, check_of}
use Rattle.log_rules.specs.declared.Checked.{Checked}
use Rattle.recording_cursor.specs.Stepping.{step_of}
use Rattle.recording_cursor.proofs.Whole.{cursor_gives}
use Rattle.reading.specs.Saying.{Gives}
use Rattle.chip.specs.Clock.{chip_clock}
use Rattle.chip.specs.Range.{in_range, power_on}
use Rattle.chip.specs.declared.State.{State}
use Rattle.chip.proofs.RangeLaws.{power_on_in}
use Rattle.chip_access.specs.Access.{access_state}
use Rattle.play_walk.specs.declared.Moment.{Moment}
use Rattle.play_walk.specs.declared.Walked.{Walked}
use Rattle.play_walk.specs.Walk.{moment_of, walk_start, walk_step}
use Rattle.play_walk.proofs.WalkLaws.{Onward, access, wait, moved, end, step_on, some_left, step_time}
use Rattle.play_at.specs.declared.At.{At}
use Rattle.play_at.specs.declared.Stand.{Stand}
use Rattle.play_at.specs.Reached.{at_of, refused_at, reached, state_at}
use Rattle.play_at.specs.Walking.{stand_of, wait_to, met_to, Fine, Walking}

-- ONE WAIT

-- a wait that goes past the clock, and one that doesn't
module _ (memory : List ℕ) (c n : ℕ) (m : Moment) (next : Stand) (s : State) (fine : Fine c m) where
  pub cut_fine : c - m.time < n → s ≡ iterate (chip_clock memory) (c - m.time) m.state → in_range s ≡ true
      → next ≡ stand_of true (moment_of m.cursor s c) → (next ≡ wait_to memory c n m) × Fine c next.moment
  unfolding wait_to
  cut_fine l is r e =
      (e ∙ rw (lt-ltb c (m.time + n) (omega (arith, fine.early)), is) refl, rw e (record { early = omega arith; ranged = r }))

  pub whole_fine : n ≤ c - m.time → s ≡ iterate (chip_clock memory) n m.state → in_range s ≡ true
      → next ≡ stand_of false (moment_of m.cursor s (m.time + n)) → (next ≡ wait_to memory c n m) × Fine c next.moment
  unfolding wait_to
  whole_fine l is r e =
      let h = fine.early in
      (e ∙ rw (le-ltb c (m.time + n) (omega arith), is) refl, rw e (record { early = omega arith; ranged = r }))

-- THE WALK

-- one step of the walk: it is over with the answer, or the walk goes on
pub record Ongoing (log memory : List ℕ) (c : ℕ) (t : Stand) (left : ℕ) : Type 0 where
  pub over : t.over ≡ true → at_of t.moment.time t.moment.state ≡ reached memory c (acts (tree_of log)) 0 (power_on (machine_of log))
  pub on : t.over ≡ false → Walking log memory c t.moment (left - 1)

false_true : {A : Type 0} → ◌≡◌ {A = Bool} false true → A
false_true e = let x : ◌≡◌ {A = ℕ} 0 1 = cc in absurd (omega arith)

module _ (log memory : List ℕ) (c : ℕ) where
  abbrev Whole : At
  Whole = reached memory c (acts (tree_of log)) 0 (power_on (machine_of log))

  -- where the walk goes on, and where it is over
  goes_on_lem : {left : ℕ} (m : Moment) (t : Stand) → t ≡ stand_of false m → Fine c t.moment → (l : List Act) → Gives (step_of log) m.cursor l (left - 1)
      → reached memory c l m.time m.state ≡ Whole → Ongoing log memory c t left
  goes_on_lem m t e fine l g same =
      record {
        over = λ o. false_true (sym (ap (λ (k : Stand). k.over) e) ∙ o);
        on = λ o. record { fine = fine; rest = l; gives = rw e g; same = rw e same };
      }

  is_over_lem : {left : ℕ} (m : Moment) (t : Stand) → t ≡ stand_of true m → at_of m.time m.state ≡ Whole → Ongoing log memory c t left
  is_over_lem m t e same =
      record {
        over = λ o. rw e same;
        on = λ o. false_true (sym o ∙ ap (λ (k : Stand). k.over) e);
      }

  -- by what the step met
  by_met : (m : Moment) {rest : List Act} {left : ℕ} {w : Walked} → Onward log m rest left w → reached memory c rest m.time m.state ≡ Whole
      → (t : Stand) → t ≡ met_to memory c w.met w.moment → Fine c t.moment → Ongoing log memory c t left
  unfolding met_to wait_to reached
  by_met m (access x l k r g e f) same t i fine =
      goes_on_lem (moment_of k (access_state x m.state) m.time) t (i ∙ rw (e, f) refl) fine l g (rw r at same)
  by_met m {left = left} (wait n l k r g e f) same t i fine = by (ltb c (m.time + n)) (i ∙ rw (e, f) refl) (rw r at same)
    where
      cut : Moment
      cut = moment_of k (iterate (chip_clock memory) (c - m.time) m.state) c

      whole : Moment
      whole = moment_of k (iterate (chip_clock memory) n m.state) (m.time + n)

      by : (b : Bool) → t ≡ pick b (stand_of true cut) (stand_of false whole)
          → pick b (at_of c cut.state) (reached memory c l whole.time whole.state) ≡ Whole → Ongoing log memory c t left
      by true i same = is_over_lem cut t i same
      by false i same = goes_on_lem whole t i fine l g same
  by_met m {rest = rest} (moved k g e f) same t i fine = goes_on_lem (moment_of k m.state m.time) t (i ∙ rw (e, f) refl) fine rest g same
  by_met m (end k r e f) same t i fine = is_over_lem (moment_of k m.state m.time) t (i ∙ rw (e, f) refl) (rw r at same)

  pub walk_on : (m : Moment) (left : ℕ) → Walking log memory c m left → (w : Walked) → w ≡ walk_step log m
      → (t : Stand) → t ≡ met_to memory c w.met w.moment → Fine c t.moment → Ongoing log memory c t left
  walk_on m left k w e = by_met m (step_on log m k.gives w e) k.same

  pub walk_left : {A : Type 0} (m : Moment) (left : ℕ) → Walking log memory c m left → left ≡ 0 → A
  walk_left m left w z = absurd (omega (arith, some_left log w.gives))

  pub walk_start_lem : (check_of log).number ≡ 0 → Walking log memory c (walk_start log) 2000002
  walk_start_lem h =
      record {
        fine = record { early = omega arith; ranged = power_on_in (machine_of log) };
        rest = acts (tree_of log);
        gives = cursor_gives log h;
        same = refl;
      }

  -- the moment behind a step is at the clock or before it, in a state in range
  pub step_fine : (m : Moment) (left : ℕ) → Walking log memory c m left → (w : Walked) → w ≡ walk_step log m
      → (in_range m.state ≡ true → in_range w.moment.state ≡ true) → Fine c w.moment
  step_fine m left k w e kept =
      record { early = rw (step_time log m w e) k.fine.early; ranged = kept k.fine.ranged }

-- THE ANSWER

-- the answer, by its tests
module _ (log memory : List ℕ) (c : ℕ) where
  pub refused_one : (length memory ≡ 32768 → ⊥) → refused_at 1 0 ≡ state_at log memory c
  unfolding state_at
  refused_one h = rw (ne_eqb (length memory) 32768 h)

  module _ (long : length memory ≡ 32768) where
    pub refused_log : (k : Checked) → k ≡ check_of log → (k.number ≡ 0 → ⊥) → refused_at k.number k.place ≡ state_at log memory c
    unfolding state_at
    refused_log k e h = rw (eq-eqb (length memory) 32768 long, ← e, ne_eqb k.number 0 h)

    pub at_is : (check_of log).number ≡ 0 → state_at log memory c ≡ reached memory c (acts (tree_of log)) 0 (power_on (machine_of log))
    unfolding state_at
    at_is fine = rw (eq-eqb (length memory) 32768 long, eq-eqb (check_of log).number 0 fine)
