-- The walk of a log that passes: act by act to the lowest and the highest level of all its lines. Assumes nothing.
use Prim.Native.Nat.{ℕ, ◌+◌, ◌-◌}
use mathlib.Core.Path.{◌≡◌, refl, sym, ap, ◌∙◌}
use mathlib.Core.Bool.{Bool, true, false}
use mathlib.Core.List.{List, [], ◌∷◌, ◌++◌}
use native.Mathlib.Omega.{arith}
use lib.Dec.{eqb}
use lib.ListN.{length}
use borrow.Author.Tests.{eq-eqb, ne_eqb}
use Rattle.arith.specs.Iterate.{iterate}
use Rattle.arith.specs.Pick.{pick}
use Rattle.bus.specs.declared.Access as busAccess
use Rattle.log_line.specs.declared.Act.{Act}
use Rattle.log_line.specs.declared.Act.TheVariants.{Wait, Access}
use Rattle.recording.specs.Whole.{machine_of}
use Rattle.log_rules.specs.Tree.{acts}
use Rattle.recording.specs.Whole.{tree_of, check_of}
use Rattle.log_rules.specs.declared.Checked.{Checked}
use Rattle.recording_cursor.specs.declared.Cursor.{Cursor}
use Rattle.recording_cursor.specs.Stepping.{step_of}
use Rattle.recording_cursor.proofs.Whole.{cursor_gives}
use Rattle.reading.specs.Saying.{Gives}
use Rattle.chip.specs.Clock.{chip_clock}
use Rattle.chip.specs.Level.{state_level}
use Rattle.chip.specs.Range.{in_range, power_on}
use Rattle.chip.specs.declared.State.{State}
use Rattle.chip.proofs.RangeLaws.{power_on_in}
use Rattle.chip_access.specs.Access.{access_state}
use Rattle.play_rules.specs.Sound.{heard, entries_from, entries_of}
use Rattle.play_walk.specs.declared.Moment.{Moment}
use Rattle.play_walk.specs.declared.Walked.{Walked}
use Rattle.play_walk.specs.Walk.{moment_of, walk_start, walk_step}
use Rattle.play_walk.proofs.WalkLaws.{Onward, access, wait, moved, end, step_on, some_left}
use Rattle.meter.specs.declared.Span.{Span}
use Rattle.meter.specs.Levels.{lowest, highest}
use Rattle.meter.specs.Spans.{span_at, span_over, told_of}
use Rattle.meter.proofs.Answers.{told_is}
use Rattle.play_meter.specs.declared.Heard.{Heard}
use Rattle.play_meter.specs.Meters.{levels_of, acts_meter, refused_answer, log_meter}
use Rattle.play_meter.specs.Walking.{changed, heard_of, clocks_on, heard_by, met_on, span_for, span_of, MeterWalking}
use Rattle.play_meter.proofs.HeardLaws.{span_append, levels_read, levels_heard_lem, levels_waited}

-- ONE ACT

-- the lowest and the highest behind a level that is heard where it differs
heard_span : (b : Bool) (s : Span) (x : ℕ) (l : List ℕ) → span_over s (pick b l (x ∷ l)) ≡ span_over (pick b s (span_over s (x ∷ []))) l
unfolding lowest highest
heard_span true s x l = refl
heard_span false s x l = refl

-- an act first, and then the others
module _ (memory : List ℕ) where
  access_span : (t : ℕ) (s s' : State) (span : Span) (l : List Act)
      → span_over span (levels_of (heard t (state_level s) s' ++ entries_from memory t (state_level s') s' l))
      ≡ span_for memory l t s' (heard_by span (state_level s) (state_level s'))
  unfolding span_for heard_by
  access_span t s s' span l =
      ap (span_over span) (levels_heard_lem t (state_level s) s' (entries_from memory t (state_level s') s' l))
      ∙ heard_span (eqb (state_level s') (state_level s)) span (state_level s') (levels_of (entries_from memory t (state_level s') s' l))

  wait_first : (n : ℕ) (l : List Act) (t : ℕ) (s : State) (span : Span)
      → span_for memory (Wait n ∷ l) t s span ≡ span_for memory l (t + n) (iterate (chip_clock memory) n s) (span_over span (changed memory n s))
  unfolding span_for entries_from
  wait_first n l t s span =
      ap (span_over span) (levels_waited memory n t s (λ t last s. entries_from memory t last s l))
      ∙ sym (span_append span (changed memory n s) _)

  access_first : (x : busAccess.Access) (l : List Act) (t : ℕ) (s : State) (span : Span)
      → span_for memory (Access x ∷ l) t s span ≡ span_for memory l t (access_state x s) (heard_by span (state_level s) (state_level (access_state x s)))
  unfolding span_for entries_from
  access_first x l t s span = ap (span_over span) (levels_read x t s _) ∙ access_span t s (access_state x s) span l

-- THE WALK

-- one step of the walk, to the cursor c: it is over with the answer, or the walk goes on
pub record Ongoing (log memory : List ℕ) (c : Cursor) (h : Heard) (left : ℕ) : Type 0 where
  pub over : h.over ≡ true → h.span ≡ span_of log memory
  pub on : h.over ≡ false → (t : ℕ) → MeterWalking log memory (moment_of c h.state t) h.span (left - 1)

false_true : {A : Type 0} → ◌≡◌ {A = Bool} false true → A
false_true e = let x : ◌≡◌ {A = ℕ} 0 1 = cc in absurd (omega arith)

-- at the end no level follows
ended : (memory : List ℕ) (t : ℕ) (s : State) (span : Span) → span_for memory [] t s span ≡ span
unfolding span_for entries_from levels_of lowest highest
ended memory t s span = refl

module _ (log memory : List ℕ) where
  -- where the walk goes on
  goes_on_lem : {c k : Cursor} {left : ℕ} (s : State) (span : Span) (h : Heard) → h ≡ heard_of false s span → in_range h.state ≡ true → c ≡ k → (t : ℕ) (l : List Act)
      → Gives (step_of log) k l (left - 1) → span_for memory l t s span ≡ span_of log memory → Ongoing log memory c h left
  goes_on_lem s span h e fine i t l g same =
      record {
        over = λ o. false_true (sym (ap (λ (k : Heard). k.over) e) ∙ o);
        on = λ o u. record { ranged = fine; time = t; rest = l; gives = rw i g; same = rw e same };
      }

  -- by what the step met
  by_met : (m : Moment) (t : ℕ) (span : Span) {rest : List Act} {left : ℕ} {w : Walked} → Onward log m rest left w
      → span_for memory rest t m.state span ≡ span_of log memory
      → (h : Heard) → h ≡ met_on memory w.met w.moment.state span → in_range h.state ≡ true → Ongoing log memory w.moment.cursor h left
  unfolding met_on clocks_on
  by_met m t span (access x l k r g e f) same h i fine =
      goes_on_lem (access_state x m.state) (heard_by span (state_level m.state) (state_level (access_state x m.state))) h (i ∙ rw (e, f) refl) fine (ap (λ (n : Moment). n.cursor) f)
      t l g (sym (access_first memory x l t m.state span) ∙ rw r at same)
  by_met m t span (wait n l k r g e f) same h i fine =
      goes_on_lem (iterate (chip_clock memory) n m.state) (span_over span (changed memory n m.state)) h (i ∙ rw (e, f) refl) fine (ap (λ (n : Moment). n.cursor) f)
      (t + n) l g (sym (wait_first memory n l t m.state span) ∙ rw r at same)
  by_met m t span {rest = rest} (moved k g e f) same h i fine = goes_on_lem m.state span h (i ∙ rw (e, f) refl) fine (ap (λ (n : Moment). n.cursor) f) t rest g same
  by_met m t span (end k r e f) same h i fine =
      let is : h ≡ heard_of true m.state span = i ∙ rw (e, f) refl in
      record {
        over = λ o. rw is (sym (ended memory t m.state span) ∙ rw r at same);
        on = λ o. false_true (sym o ∙ ap (λ (k : Heard). k.over) is);
      }

  pub walk_on : (m : Moment) (span : Span) (left : ℕ) → MeterWalking log memory m span left → (w : Walked) → w ≡ walk_step log m
      → (h : Heard) → h ≡ met_on memory w.met w.moment.state span → in_range h.state ≡ true → Ongoing log memory w.moment.cursor h left
  walk_on m span left k w e = by_met m k.time span (step_on log m k.gives w e) k.same

  pub walk_left : {A : Type 0} (m : Moment) (span : Span) (left : ℕ) → MeterWalking log memory m span left → left ≡ 0 → A
  walk_left m span left w z = absurd (omega (arith, some_left log w.gives))

  pub walk_start_lem : (check_of log).number ≡ 0 → MeterWalking log memory (walk_start log) (span_at (state_level (walk_start log).state)) 2000002
  unfolding span_of
  walk_start_lem h =
      record {
        ranged = power_on_in (machine_of log);
        time = 0;
        rest = acts (tree_of log);
        gives = cursor_gives log h;
        same = refl;
      }

  -- THE ANSWER

  -- what is told from the lowest and the highest of all is the meter of the log's lines
  pub told_whole : (span : Span) → span ≡ span_of log memory → told_of span.low span.high ≡ acts_meter (machine_of log) memory (acts (tree_of log))
  unfolding span_of span_for acts_meter entries_of levels_of
  told_whole span e =
      ap (λ (s : Span). told_of s.low s.high) e
      ∙ told_is (state_level (power_on (machine_of log))) (levels_of (entries_from memory 0 (state_level (power_on (machine_of log))) (power_on (machine_of log)) (acts (tree_of log))))

  -- the answer, by its tests
  pub refused_one : (length memory ≡ 32768 → ⊥) → refused_answer 1 0 ≡ log_meter log memory
  unfolding log_meter
  refused_one h = rw (ne_eqb (length memory) 32768 h)

  module _ (long : length memory ≡ 32768) where
    pub refused_log : (k : Checked) → k ≡ check_of log → (k.number ≡ 0 → ⊥) → refused_answer k.number k.place ≡ log_meter log memory
    unfolding log_meter
    refused_log k e h = rw (eq-eqb (length memory) 32768 long, ← e, ne_eqb k.number 0 h)

    pub meter_is : (check_of log).number ≡ 0 → log_meter log memory ≡ record { number = 0; place = 0; meter = acts_meter (machine_of log) memory (acts (tree_of log)) }
    unfolding log_meter
    meter_is fine = rw (eq-eqb (length memory) 32768 long, eq-eqb (check_of log).number 0 fine)
