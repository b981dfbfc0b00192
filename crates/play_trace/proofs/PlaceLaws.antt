-- A step from a place that nothing refuses, by what the cursor says. Assumes nothing.
use Prim.Native.Nat.{ℕ, ◌+◌, ◌-◌, ◌≤◌, ◌<◌, min}
use mathlib.Core.Path.{◌≡◌, refl, sym, ◌∙◌}
use mathlib.Core.Bool.{true, false}
use mathlib.Core.List.{List}
use native.Mathlib.Omega.{arith}
use lib.ListN.{length}
use Rattle.arith.specs.Iterate.{iterate}
use Rattle.bus.specs.declared.Access as busAccess
use Rattle.log_line.specs.declared.Act.TheVariants.{Wait, Access}
use Rattle.recording_cursor.specs.declared.Cursor.{Cursor}
use Rattle.recording_cursor.specs.Stepping as cursor
use Rattle.reading.specs.Saying.{over, on, says}
use Rattle.chip.specs.Clock.{chip_clock}
use Rattle.chip.specs.Range.{in_range}
use Rattle.chip.specs.declared.State.{State}
use Rattle.chip_access.specs.Access.{access_state}
use Rattle.play_walk.specs.Walk.{moment_of, act_met, act_state, given_met, walk_step}
use Rattle.play_trace.specs.declared.Event.TheVariants.{Begins}
use Rattle.play_trace.specs.Window.{shown_at, clock_event, access_event}
use Rattle.play_trace.specs.Stepping.{go, place_of, begins_at, clocks_past, approach, outside_step, until_seen, event_said, clocks_step, met_step}
use Rattle.play_trace.specs.Stepping.{inside_step, step_of}
use Rattle.play_trace.proofs.StepLaws.{outside_begins, outside_log, outside_clocks, inside_over, inside_log, inside_clocks, refusal_none, step_inside}
use Rattle.play_trace.proofs.StepLaws.{step_outside}

module _ (log memory : List ℕ) (from until : ℕ) (long : length memory ≡ 32768) where
  module _ (t : ℕ) (s : State) (c : Cursor) (ranged : in_range s ≡ true) (early : t ≤ 2000000000) where
    inside : (n d : ℕ) → n ≤ 1000000
        → step_of log memory from until (place_of (moment_of c s t) n d true) ≡ inside_step log memory until (place_of (moment_of c s t) n d true)
    inside n d low =
        let p = place_of (moment_of c s t) n d true in
        sym (step_inside log memory from until p (sym (refusal_none memory p long ranged low early)) refl)

    outside : (n : ℕ) → n ≤ 1000000
        → step_of log memory from until (place_of (moment_of c s t) n 0 false) ≡ outside_step log memory from (place_of (moment_of c s t) n 0 false)
    outside n low =
        let p = place_of (moment_of c s t) n 0 false in
        sym (step_outside log memory from until p (sym (refusal_none memory p long ranged low early)) refl)

    -- in the window
    pub inside_ends : (n d : ℕ) → n ≤ 1000000 → until ≤ t
        → step_of log memory from until (place_of (moment_of c s t) n d true) ≡ go over (place_of (moment_of c s t) n d true)
    inside_ends n d low h = inside n d low ∙ sym (inside_over log memory until (place_of (moment_of c s t) n d true) h)

    module _ (d : ℕ) (soon : t < until) where
      here_log : step_of log memory from until (place_of (moment_of c s t) 0 d true)
          ≡ met_step (place_of (moment_of c s t) 0 d true) (walk_step log (moment_of c s t)).met (walk_step log (moment_of c s t)).moment
      here_log = inside 0 d (omega arith) ∙ sym (inside_log log memory until (place_of (moment_of c s t) 0 d true) soon refl)

      pub log_over : (cursor.step_of log c).said ≡ over
          → step_of log memory from until (place_of (moment_of c s t) 0 d true) ≡ go over (place_of (moment_of (cursor.step_of log c).state s t) 0 d true)
      unfolding met_step walk_step given_met
      log_over e = here_log ∙ rw e refl

      pub log_on : (cursor.step_of log c).said ≡ on
          → step_of log memory from until (place_of (moment_of c s t) 0 d true) ≡ go on (place_of (moment_of (cursor.step_of log c).state s t) 0 d true)
      unfolding met_step walk_step given_met
      log_on e = here_log ∙ rw e refl

      pub log_wait : (n : ℕ) → (cursor.step_of log c).said ≡ says (Wait n)
          → step_of log memory from until (place_of (moment_of c s t) 0 d true) ≡ go on (place_of (moment_of (cursor.step_of log c).state s t) n 0 true)
      unfolding met_step walk_step given_met act_met act_state
      log_wait n e = here_log ∙ rw e refl

      pub log_access : (x : busAccess.Access) → (cursor.step_of log c).said ≡ says (Access x)
          → step_of log memory from until (place_of (moment_of c s t) 0 d true)
          ≡ go (says (access_event t (d + 1) x s (access_state x s)))
          (place_of (moment_of (cursor.step_of log c).state (access_state x s) t) 0 (min (d + 1) 500) true)
      unfolding met_step walk_step given_met act_met act_state
      log_access x e = here_log ∙ rw e refl

      -- the clocks of a wait up to the next event
      pub clocks_on_lem : (n m k : ℕ) → n ≤ 1000000 → (n ≡ 0 → ⊥) → m ≡ min n (until - t) → k ≡ until_seen memory m s
          → step_of log memory from until (place_of (moment_of c s t) n d true)
          ≡ go (event_said (clock_event (t + k) s (iterate (chip_clock memory) k s)))
          (place_of (moment_of c (iterate (chip_clock memory) k s) (t + k)) (n - k) 0 true)
      unfolding clocks_step clocks_past
      clocks_on_lem n m k low some e f =
          rw (f, e) (inside n d low ∙ sym (inside_clocks log memory until (place_of (moment_of c s t) n d true) soon some))

    -- before it
    pub begins : (n : ℕ) → n ≤ 1000000 → from ≤ t
        → step_of log memory from until (place_of (moment_of c s t) n 0 false) ≡ go (says (Begins (shown_at s t 0))) (place_of (moment_of c s t) n 0 true)
    unfolding begins_at
    begins n low h = outside n low ∙ sym (outside_begins log memory from (place_of (moment_of c s t) n 0 false) h)

    module _ (far : t < from) where
      there_log : step_of log memory from until (place_of (moment_of c s t) 0 0 false)
          ≡ approach (place_of (moment_of c s t) 0 0 false) (walk_step log (moment_of c s t)).met (walk_step log (moment_of c s t)).moment
      there_log = outside 0 (omega arith) ∙ sym (outside_log log memory from (place_of (moment_of c s t) 0 0 false) far refl)

      pub far_over : (cursor.step_of log c).said ≡ over
          → step_of log memory from until (place_of (moment_of c s t) 0 0 false) ≡ go (says (Begins (shown_at s t 0))) (place_of (moment_of c s t) 0 0 true)
      unfolding approach begins_at walk_step given_met
      far_over e = there_log ∙ rw e refl

      pub far_on : (cursor.step_of log c).said ≡ on
          → step_of log memory from until (place_of (moment_of c s t) 0 0 false) ≡ go on (place_of (moment_of (cursor.step_of log c).state s t) 0 0 false)
      unfolding approach walk_step given_met
      far_on e = there_log ∙ rw e refl

      pub far_wait : (n : ℕ) → (cursor.step_of log c).said ≡ says (Wait n)
          → step_of log memory from until (place_of (moment_of c s t) 0 0 false) ≡ go on (place_of (moment_of (cursor.step_of log c).state s t) n 0 false)
      unfolding approach walk_step given_met act_met act_state
      far_wait n e = there_log ∙ rw e refl

      pub far_access : (x : busAccess.Access) → (cursor.step_of log c).said ≡ says (Access x)
          → step_of log memory from until (place_of (moment_of c s t) 0 0 false)
          ≡ go on (place_of (moment_of (cursor.step_of log c).state (access_state x s) t) 0 0 false)
      unfolding approach walk_step given_met act_met act_state
      far_access x e = there_log ∙ rw e refl

      -- j clocks of a wait, up to its end or to the window
      pub far_clocks : (n j left time : ℕ) → n ≤ 1000000 → (n ≡ 0 → ⊥) → min n (from - t) ≡ j → n - j ≡ left → t + j ≡ time
          → step_of log memory from until (place_of (moment_of c s t) n 0 false) ≡ go on (place_of (moment_of c (iterate (chip_clock memory) j s) time) left 0 false)
      unfolding clocks_past
      far_clocks n j left time low some e f g =
          rw (← f, ← g, ← e) (outside n low ∙ sym (outside_clocks log memory from (place_of (moment_of c s t) n 0 false) far some))
