-- The walk of a log that passes: act by act to the counts of all its clocks. Assumes nothing.
use Prim.Native.Nat.{ℕ, ◌+◌, ◌-◌, ◌≤◌}
use mathlib.Core.Path.{◌≡◌, refl, sym, ap, ◌∙◌}
use mathlib.Core.Bool.{Bool, true, false}
use mathlib.Core.List.{List}
use native.Mathlib.Omega.{arith}
use lib.ListN.{length}
use borrow.Author.Tests.{eq-eqb, ne_eqb}
use Rattle.arith.specs.Iterate.{iterate}
use Rattle.reading.specs.Counting.{sum}
use Rattle.reading.specs.Saying.{Gives}
use Rattle.log_line.specs.declared.Act.{Act}
use Rattle.recording.specs.Whole.{machine_of}
use Rattle.log_rules.specs.Tree.{acts, act_clocks, clocks}
use Rattle.recording.specs.Whole.{tree_of, check_of}
use Rattle.log_rules.specs.declared.Checked.{Checked}
use Rattle.log_passing.proofs.ActLaws.{clocks_in, clocks_listed}
use Rattle.recording.proofs.Passing.{clear, passes}
use Rattle.recording_cursor.specs.declared.Cursor.{Cursor}
use Rattle.recording_cursor.specs.Stepping.{step_of}
use Rattle.recording_cursor.proofs.Whole.{cursor_gives}
use Rattle.chip.specs.Clock.{chip_clock}
use Rattle.chip.specs.Range.{in_range, Bytes}
use Rattle.chip.specs.declared.State.{State}
use Rattle.chip.proofs.RangeLaws.{power_on_in}
use Rattle.chip_access.specs.Access.{access_state}
use Rattle.play_begin.specs.Whole.{play_number, play_place}
use Rattle.play_walk.specs.declared.Moment.{Moment}
use Rattle.play_walk.specs.declared.Walked.{Walked}
use Rattle.play_walk.specs.Walk.{moment_of, walk_start, walk_step}
use Rattle.play_walk.proofs.WalkLaws.{Onward, access, wait, moved, end, step_on, some_left}
use Rattle.play_dwell.specs.declared.Dwelt.{Dwelt}
use Rattle.play_dwell.specs.Dwelling.{dwelling, dwell_from, no_counts, log_dwell}
use Rattle.play_dwell.specs.Walking.{refused_answer, dwelt_of, clocks_on, met_clocks, met_on, table_of, DwellWalking}
use Rattle.play_dwell.proofs.CountLaws.{dwelling_length, dwelling_sum}

-- THE WALK

-- one step of the walk, to the cursor c: it is over with the answer, or the walk goes on
pub record Ongoing (log memory : List ℕ) (c : Cursor) (h : Dwelt) (left : ℕ) : Type 0 where
  pub over : h.over ≡ true → h.counts ≡ table_of log memory
  pub on : h.over ≡ false → (t : ℕ) → DwellWalking log memory (moment_of c h.state t) h.counts (left - 1)

false_true : {A : Type 0} → ◌≡◌ {A = Bool} false true → A
false_true e = let x : ◌≡◌ {A = ℕ} 0 1 = cc in absurd (omega arith)

module _ (log memory : List ℕ) where
  -- the clocks of what a step meets are among those still to come
  met_few : {m : Moment} {rest : List Act} {left : ℕ} {w : Walked} → Onward log m rest left w → met_clocks w.met ≤ clocks_in rest
  unfolding met_clocks clocks_in act_clocks
  met_few (access x l k r g e f) = rw e (omega arith)
  met_few (wait n l k r g e f) = rw (e, r) (omega arith)
  met_few (moved k g e f) = rw e (omega arith)
  met_few (end k r e f) = rw e (omega arith)

  pub walk_few : (m : Moment) (counts : List ℕ) (left : ℕ) → DwellWalking log memory m counts left → (w : Walked) → w ≡ walk_step log m
      → sum counts + met_clocks w.met ≤ 2000000000
  walk_few m counts left k w e = omega (arith, k.few, met_few (step_on log m k.gives w e))

  -- where the walk goes on
  goes_on_lem : {c k : Cursor} {left : ℕ} (s : State) (counts : List ℕ) (h : Dwelt) → h ≡ dwelt_of false s counts → in_range h.state ≡ true
      → length counts ≡ 128 → c ≡ k → (l : List Act) → Gives (step_of log) k l (left - 1) → sum counts + clocks_in l ≤ 2000000000
      → dwell_from memory l s counts ≡ table_of log memory → Ongoing log memory c h left
  goes_on_lem s counts h e fine size i l g few same =
      record {
        over = λ o. false_true (sym (ap (λ (k : Dwelt). k.over) e) ∙ o);
        on = λ o u. record { ranged = fine; size = rw e size; rest = l; gives = rw i g; few = rw e few; same = rw e same };
      }

  -- by what the step met
  by_met : Bytes memory → (m : Moment) (counts : List ℕ) {rest : List Act} {left : ℕ} {w : Walked} → Onward log m rest left w
      → in_range m.state ≡ true → length counts ≡ 128 → sum counts + clocks_in rest ≤ 2000000000 → dwell_from memory rest m.state counts ≡ table_of log memory
      → (h : Dwelt) → h ≡ met_on memory w.met w.moment.state counts → in_range h.state ≡ true → Ongoing log memory w.moment.cursor h left
  unfolding met_on clocks_on dwell_from clocks_in act_clocks
  by_met bytes m counts (access x l k r g e f) ranged size few same h i fine =
      goes_on_lem (access_state x m.state) counts h (i ∙ rw (e, f) refl) fine size (ap (λ (n : Moment). n.cursor) f) l g
      (let z = rw r at few in omega arith) (rw r at same)
  by_met bytes m counts (wait n l k r g e f) ranged size few same h i fine =
      let more = dwelling_sum memory bytes n m.state counts ranged size in
      goes_on_lem (iterate (chip_clock memory) n m.state) (dwelling memory n m.state counts) h (i ∙ rw (e, f) refl) fine
      (dwelling_length memory n m.state counts ∙ size) (ap (λ (n : Moment). n.cursor) f) l g (let z = rw r at few in omega arith) (rw r at same)
  by_met bytes m counts {rest = rest} (moved k g e f) ranged size few same h i fine =
      goes_on_lem m.state counts h (i ∙ rw (e, f) refl) fine size (ap (λ (n : Moment). n.cursor) f) rest g few same
  by_met bytes m counts (end k r e f) ranged size few same h i fine =
      let is : h ≡ dwelt_of true m.state counts = i ∙ rw (e, f) refl in
      record {
        over = λ o. rw is (rw r at same);
        on = λ o. false_true (sym o ∙ ap (λ (k : Dwelt). k.over) is);
      }

  pub walk_on : Bytes memory → (m : Moment) (counts : List ℕ) (left : ℕ) → DwellWalking log memory m counts left → (w : Walked) → w ≡ walk_step log m
      → (h : Dwelt) → h ≡ met_on memory w.met w.moment.state counts → in_range h.state ≡ true → Ongoing log memory w.moment.cursor h left
  walk_on bytes m counts left k w e = by_met bytes m counts (step_on log m k.gives w e) k.ranged k.size k.few k.same

  pub walk_left : {A : Type 0} (m : Moment) (counts : List ℕ) (left : ℕ) → DwellWalking log memory m counts left → left ≡ 0 → A
  walk_left m counts left w z = absurd (omega (arith, some_left log w.gives))

  none_sum : sum no_counts ≡ 0
  unfolding sum
  none_sum = refl

  pub walk_start_lem : (check_of log).number ≡ 0 → DwellWalking log memory (walk_start log) no_counts 2000002
  unfolding table_of
  walk_start_lem h =
      record {
        ranged = power_on_in (machine_of log);
        size = refl;
        rest = acts (tree_of log);
        gives = cursor_gives log h;
        few = omega (arith, none_sum, clocks_listed (tree_of log), (clear log h).in_clocks);
        same = refl;
      }

  -- THE ANSWER, by its tests
  pub refused_one : (length memory ≡ 32768 → ⊥) → refused_answer 1 0 ≡ log_dwell log memory
  unfolding log_dwell play_number play_place
  refused_one h = rw (ne_eqb (length memory) 32768 h)

  module _ (long : length memory ≡ 32768) where
    pub refused_log : (k : Checked) → k ≡ check_of log → (k.number ≡ 0 → ⊥) → refused_answer k.number k.place ≡ log_dwell log memory
    unfolding log_dwell play_number play_place
    refused_log k e h = rw (eq-eqb (length memory) 32768 long, ← e, ne_eqb k.number 0 h)

    pub dwell_is : (check_of log).number ≡ 0 → log_dwell log memory ≡ record { number = 0; place = 0; clocks = clocks (tree_of log); counts = table_of log memory }
    unfolding log_dwell play_number table_of
    dwell_is fine = rw (eq-eqb (length memory) 32768 long, eq-eqb (check_of log).number 0 fine)

  -- the clocks that the check hands out
  pub check_clocks : (check_of log).number ≡ 0 → (check_of log).clocks ≡ clocks (tree_of log)
  check_clocks fine = ap (λ (k : Checked). k.clocks) (passes log fine)
