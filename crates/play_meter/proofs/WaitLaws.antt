-- THE STEPS FROM A LOG'S BEGINNING SAY ITS WAITS, one after the other, and then the end. Assumes nothing.
use Prim.Native.Nat.{ℕ, ◌+◌, ◌≤◌}
use mathlib.Core.Path.{◌≡◌, refl, sym, ◌∙◌}
use mathlib.Core.Bool.{true}
use mathlib.Core.List.{List}
use native.Mathlib.Omega.{arith}
use lib.ListN.{length}
use Rattle.arith.specs.Iterate.{iterate}
use Rattle.arith.proofs.IterateLaws.{iterate_keeps}
use Rattle.bus.specs.declared.Access as busAccess
use Rattle.bus.specs.declared.Access.TheVariants as bus
use Rattle.log_line.specs.declared.Act.{Act}
use Rattle.log_line.specs.declared.Act.TheVariants.{Wait, Access}
use Rattle.log_line.specs.Printed.{Allowed}
use Rattle.recording.specs.Whole.{machine_of}
use Rattle.log_rules.specs.Tree.{acts, act_clocks}
use Rattle.recording.specs.Whole.{tree_of, check_of}
use Rattle.log_passing.proofs.ActLaws.{Every, every_acts, clocks_in, clocks_listed}
use Rattle.recording.proofs.Passing.{clear, tree_within}
use Rattle.recording_cursor.specs.declared.Cursor.{Cursor}
use Rattle.recording_cursor.specs.Stepping.{step_of}
use Rattle.recording_cursor.proofs.Whole.{cursor_gives}
use Rattle.reading.specs.Saying.{over, on, says, Gives, ends, goes, gives}
use Rattle.reading.proofs.SayingLaws.{by_says, by_on, by_over}
use Rattle.chip.specs.Clock.{chip_clock}
use Rattle.chip.specs.Range.{in_range, power_on, Bytes}
use Rattle.chip.specs.declared.State.{State}
use Rattle.chip.proofs.RangeLaws.{StateRanged, state_in_lem, state_back, clock_kept, power_on_in}
use Rattle.chip_access.specs.Access.{access_state}
use Rattle.chip_access.proofs.AccessLaws.{Bytewide, access_kept}
use Rattle.play_walk.specs.Walk.{moment_of, walk_start, act_met, act_state, given_met, walk_step}
use Rattle.play_meter.specs.Meters.{wait_meter, waits_from}
use Rattle.play_meter.specs.Passing.{go, met_pass, pass_of}
use Rattle.play_meter.proofs.PassLaws.{pass_some}

-- a value that a log writes is a byte
bytewide : (x : busAccess.Access) → Allowed (Access x) → Bytewide x
bytewide (bus.Write r v) w = w.1
bytewide bus.Read w = tt

clocks_ranged : (memory : List ℕ) → Bytes memory → (n : ℕ) (s : State) → in_range s ≡ true → in_range (iterate (chip_clock memory) n s) ≡ true
clocks_ranged memory bytes n s h = state_back _ (iterate_keeps StateRanged (chip_clock memory) (clock_kept memory bytes) n s (state_in_lem s h))

module _ (log memory : List ℕ) (long : length memory ≡ 32768) (bytes : Bytes memory) where
  -- a step by what the cursor says
  module _ (t : ℕ) (s : State) (c : Cursor) (ranged : in_range s ≡ true) (early : t ≤ 2000000000) where
    here_pass : pass_of log memory (moment_of c s t) ≡ met_pass memory (walk_step log (moment_of c s t)).met (walk_step log (moment_of c s t)).moment
    here_pass = sym (pass_some log memory (moment_of c s t) long ranged early)

    pass_over : (step_of log c).said ≡ over → pass_of log memory (moment_of c s t) ≡ go over (moment_of (step_of log c).state s t)
    unfolding met_pass walk_step given_met
    pass_over e = here_pass ∙ rw e refl

    pass_on : (step_of log c).said ≡ on → pass_of log memory (moment_of c s t) ≡ go on (moment_of (step_of log c).state s t)
    unfolding met_pass walk_step given_met
    pass_on e = here_pass ∙ rw e refl

    pass_wait : (n : ℕ) → (step_of log c).said ≡ says (Wait n)
        → pass_of log memory (moment_of c s t) ≡ go (says (wait_meter memory n t s)) (moment_of (step_of log c).state (iterate (chip_clock memory) n s) (t + n))
    unfolding met_pass walk_step given_met act_met act_state
    pass_wait n e = here_pass ∙ rw e refl

    pass_access : (x : busAccess.Access) → (step_of log c).said ≡ says (Access x)
        → pass_of log memory (moment_of c s t) ≡ go on (moment_of (step_of log c).state (access_state x s) t)
    unfolding met_pass walk_step given_met act_met act_state
    pass_access x e = here_pass ∙ rw e refl

  acts_said : {c : Cursor} {l : List Act} {f : ℕ} → Gives (step_of log) c l f → (t : ℕ) (s : State) → Every l → in_range s ≡ true → t + clocks_in l ≤ 2000000000
      → Gives (pass_of log memory) (moment_of c s t) (waits_from memory l t s) f
  unfolding waits_from clocks_in act_clocks
  acts_said {c = c} (ends f e p) t s w h b = by_over (pass_of log memory) f (pass_over t s c h (omega arith) e) p
  acts_said {c = c} (goes f e g p) t s w h b =
      by_on (pass_of log memory) f (pass_on t s c h (omega arith) e) (acts_said g t s w h b) p
  acts_said {c = c} (gives {a = Wait n} {l = l} f e g p) t s w h b =
      by_says (pass_of log memory) f (pass_wait t s c h (omega arith) n e)
      (acts_said g (t + n) (iterate (chip_clock memory) n s) w.1 (clocks_ranged memory bytes n s h) (omega arith)) p
  acts_said {c = c} (gives {a = Access x} {l = l} f e g p) t s w h b =
      by_on (pass_of log memory) f (pass_access t s c h (omega arith) x e)
      (acts_said g t (access_state x s) w.1 (access_kept x s (bytewide x w.0) h) (omega arith)) p

  -- in 2,000,002 steps at most
  pub waits_said : (check_of log).number ≡ 0 → Gives (pass_of log memory) (walk_start log) (waits_from memory (acts (tree_of log)) 0 (power_on (machine_of log))) 2000002
  waits_said h =
      let c = (clear log h).in_clocks in
      let d = clocks_listed (tree_of log) in
      acts_said (cursor_gives log h) 0 (power_on (machine_of log)) (every_acts (tree_of log) 0 (tree_within log h)) (power_on_in (machine_of log)) (omega arith)
