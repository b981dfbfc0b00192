-- THE STEPS FROM A LOG'S BEGINNING SAY ITS CHANGES, one after the other, and then the end, at the log's clocks. Assumes nothing.
use Prim.Native.Nat.{ℕ, zero, suc, ◌+◌, ◌-◌, ◌≤◌, ◌<◌}
use mathlib.Core.Path.{◌≡◌, refl, sym, ap, ◌∙◌}
use mathlib.Core.Bool.{Bool, true, false}
use mathlib.Core.List.{List, [], ◌∷◌, ◌++◌, append_assoc}
use native.Mathlib.Nat.{add-zero, zero-add}
use native.Mathlib.Omega.{arith}
use lib.ListN.{length}
use Rattle.arith.specs.Iterate.{iterate}
use Rattle.arith.specs.Pick.{pick}
use Rattle.arith.proofs.IterateLaws.{iterate_keeps, iterate_add}
use Rattle.bus.specs.declared.Access as busAccess
use Rattle.bus.specs.declared.Access.TheVariants as bus
use Rattle.log_line.specs.declared.Act.{Act}
use Rattle.log_line.specs.declared.Act.TheVariants.{Wait, Access}
use Rattle.log_line.specs.Printed.{Allowed}
use Rattle.recording.specs.Whole.{machine_of}
use Rattle.log_rules.specs.Tree.{acts, clocks, act_clocks}
use Rattle.recording.specs.Whole.{tree_of, check_of}
use Rattle.log_passing.proofs.ActLaws.{Every, every_acts, clocks_in, clocks_listed}
use Rattle.recording.proofs.Passing.{clear, tree_within}
use Rattle.recording_cursor.specs.declared.Cursor.{Cursor}
use Rattle.recording_cursor.specs.Stepping as cursor
use Rattle.recording_cursor.proofs.Whole.{cursor_gives}
use Rattle.reading.specs.Saying.{over, on, says, Gives, ends, goes, gives}
use Rattle.reading.proofs.SayingLaws.{within}
use Rattle.chip.specs.Clock.{chip_clock}
use Rattle.chip.specs.Range.{in_range, power_on, Bytes}
use Rattle.chip.specs.declared.State.{State}
use Rattle.chip.proofs.RangeLaws.{StateRanged, state_in_lem, state_back, clock_kept, power_on_in}
use Rattle.chip_access.specs.Access.{access_state}
use Rattle.chip_access.proofs.AccessLaws.{Bytewide, access_kept}
use Rattle.play_walk.specs.Walk.{moment_of, act_met, act_state, given_met, walk_step}
use Rattle.play_interrupts.specs.declared.Change.{Change}
use Rattle.play_interrupts.specs.declared.Place.{Place}
use Rattle.play_interrupts.specs.Changes.{flags_of, same_flags, change_of, changed, clocks_changes, changes_from}
use Rattle.play_interrupts.specs.Stepping.{go, place_of, place_start, until_change, change_said, clocks_step, met_step, step_of}
use Rattle.play_interrupts.proofs.ChangeLaws.{changes_add, until_changes, until_most, until_some}
use Rattle.play_interrupts.proofs.StepLaws.{place_log, place_clocks, step_some}
use Rattle.play_interrupts.proofs.Telling.{Tells, only_given, by_says, by_on, by_over}

-- a value that a log writes is a byte
bytewide : (x : busAccess.Access) → Allowed (Access x) → Bytewide x
bytewide (bus.Write r v) w = w.1
bytewide bus.Read w = tt

clocks_ranged : (memory : List ℕ) → Bytes memory → (n : ℕ) (s : State) → in_range s ≡ true → in_range (iterate (chip_clock memory) n s) ≡ true
clocks_ranged memory bytes n s h = state_back _ (iterate_keeps StateRanged (chip_clock memory) (clock_kept memory bytes) n s (state_in_lem s h))

-- a place whose clock is `end`
abbrev pub At : ℕ → Place → Type 0
At end p = p.moment.time ≡ end

module _ (log memory : List ℕ) (end : ℕ) where
  -- the changes l are said from a place on, within f steps, and then the end at its clock
  abbrev pub Told : Place → List Change → ℕ → Type 0
  Told p l f = Tells (step_of log memory) (At end) p l f

  -- a step that says a change, or nothing
  by_changed : {p q : Place} {l : List Change} {k : ℕ} (f t : ℕ) (s next : State) → step_of log memory p ≡ go (change_said (changed t s next)) q
      → Told q l k → k < f → Told p (changed t s next ++ l) f
  unfolding changed change_said
  by_changed {p = p} {q = q} {l = l} f t s next e g h = by (same_flags (flags_of s) (flags_of next)) e
    where
      by : (b : Bool) → step_of log memory p ≡ go (change_said (pick b [] (change_of t (flags_of s) (flags_of next) ∷ []))) q
          → Told p (pick b [] (change_of t (flags_of s) (flags_of next) ∷ []) ++ l) f
      by true e = by_on (step_of log memory) (At end) f e g h
      by false e = by_says (step_of log memory) (At end) f e g h

  module _ (long : length memory ≡ 32768) (bytes : Bytes memory) where
    -- a step by what the cursor says
    module _ (t : ℕ) (s : State) (c : Cursor) (ranged : in_range s ≡ true) (early : t ≤ 2000000000) where
      here_log : step_of log memory (place_of (moment_of c s t) 0)
          ≡ met_step s (walk_step log (moment_of c s t)).met (walk_step log (moment_of c s t)).moment
      here_log = sym (place_log log memory (place_of (moment_of c s t) 0) refl ∙ step_some log memory (place_of (moment_of c s t) 0) long ranged early)

      log_over : (cursor.step_of log c).said ≡ over
          → step_of log memory (place_of (moment_of c s t) 0) ≡ go over (place_of (moment_of (cursor.step_of log c).state s t) 0)
      unfolding met_step walk_step given_met
      log_over e = here_log ∙ rw e refl

      log_on : (cursor.step_of log c).said ≡ on
          → step_of log memory (place_of (moment_of c s t) 0) ≡ go on (place_of (moment_of (cursor.step_of log c).state s t) 0)
      unfolding met_step walk_step given_met
      log_on e = here_log ∙ rw e refl

      log_wait : (n : ℕ) → (cursor.step_of log c).said ≡ says (Wait n)
          → step_of log memory (place_of (moment_of c s t) 0) ≡ go on (place_of (moment_of (cursor.step_of log c).state s t) n)
      unfolding met_step walk_step given_met act_met act_state
      log_wait n e = here_log ∙ rw e refl

      log_access : (x : busAccess.Access) → (cursor.step_of log c).said ≡ says (Access x)
          → step_of log memory (place_of (moment_of c s t) 0)
          ≡ go (change_said (changed t s (access_state x s))) (place_of (moment_of (cursor.step_of log c).state (access_state x s) t) 0)
      unfolding met_step walk_step given_met act_met act_state
      log_access x e = here_log ∙ rw e refl

      -- the rest of a wait
      clocks_on_lem : (n : ℕ) → (n ≡ 0 → ⊥) → n ≤ 1000000
          → step_of log memory (place_of (moment_of c s t) n)
          ≡ go (change_said (changed (t + until_change memory n s) s (iterate (chip_clock memory) (until_change memory n s) s)))
          (place_of (moment_of c (iterate (chip_clock memory) (until_change memory n s) s) (t + until_change memory n s)) (n - until_change memory n s))
      unfolding clocks_step
      clocks_on_lem n some low =
          sym (place_clocks log memory (place_of (moment_of c s t) n) some low ∙ step_some log memory (place_of (moment_of c s t) n) long ranged early)

    -- no clock of a wait left
    wait_none : (t : ℕ) (s : State) (c : Cursor) {l : List Change} {f : ℕ} → Told (place_of (moment_of c (iterate (chip_clock memory) 0 s) (t + 0)) 0) l f
        → Told (place_of (moment_of c s t) 0) (clocks_changes memory 0 t s ++ l) (0 + f)
    unfolding clocks_changes iterate
    wait_none t s c g = rw (zero-add) (rw (add-zero t) at g)

    -- k clocks of a wait, and the others
    split : (n k t : ℕ) (s : State) (l : List Change) → k ≤ n → k ≡ until_change memory n s
        → changed (t + k) s (iterate (chip_clock memory) k s) ++ (clocks_changes memory (n - k) (t + k) (iterate (chip_clock memory) k s) ++ l)
        ≡ clocks_changes memory n t s ++ l
    split n k t s l h e =
        let far = iterate (chip_clock memory) k s in
        let whole : k + (n - k) ≡ n = omega arith in
        let first : clocks_changes memory k t s ≡ changed (t + k) s far = rw e (until_changes memory n t s) in
        sym (append_assoc (changed (t + k) s far) (clocks_changes memory (n - k) (t + k) far) l)
        ∙ ap (λ (x : List Change). x ++ l)
        (ap (λ (x : List Change). x ++ clocks_changes memory (n - k) (t + k) far) (sym first)
        ∙ (sym (changes_add memory k (n - k) t s) ∙ ap (λ (i : ℕ). clocks_changes memory i t s) whole))

    -- A WAIT, within as many steps as it has clocks
    abbrev WaitSaid : ℕ → Type 0
    WaitSaid n =
        (t : ℕ) (s : State) (c : Cursor) (l : List Change) (f : ℕ) → in_range s ≡ true → n ≤ 1000000 → t + n ≤ 2000000000
        → Told (place_of (moment_of c (iterate (chip_clock memory) n s) (t + n)) 0) l f
        → Told (place_of (moment_of c s t) n) (clocks_changes memory n t s ++ l) (n + f)

    wait_on_lem : (n : ℕ) → ((k : ℕ) → k < n → WaitSaid k) → WaitSaid n
    wait_on_lem zero others t s c l f ranged low early g = wait_none t s c g
    wait_on_lem (suc m) others t s c l f ranged low early g =
        let n = suc m in
        let k = until_change memory n s in
        let most = until_most memory n s in
        let some = until_some memory m s in
        let far = iterate (chip_clock memory) k s in
        let whole : k + (n - k) ≡ n = omega arith in
        let state : iterate (chip_clock memory) n s ≡ iterate (chip_clock memory) (n - k) far =
        ap (λ (i : ℕ). iterate (chip_clock memory) i s) (sym whole) ∙ iterate_add (chip_clock memory) k (n - k) s in
        let time : t + n ≡ t + k + (n - k) = omega arith in
        let g' : Told (place_of (moment_of c (iterate (chip_clock memory) (n - k) far) (t + k + (n - k))) 0) l f = rw (← state, ← time) g in
        let r = others (n - k) (omega arith) (t + k) far c l f (clocks_ranged memory bytes k s ranged) (omega arith) (omega arith) g' in
        rw (← split n k t s l most refl)
        (by_changed (n + f) (t + k) s far (clocks_on_lem t s c ranged (omega arith) n (λ z. omega arith) low) r (omega arith))

    wait_below : (b n : ℕ) → n < b → WaitSaid n
    wait_below zero n h = absurd (omega arith)
    wait_below (suc b) n h = wait_on_lem n (λ k i. wait_below b k (omega arith))

    wait_said : (n : ℕ) → WaitSaid n
    wait_said n = wait_below (suc n) n (omega arith)

    acts_said : {c : Cursor} {l : List Act} {f : ℕ} → Gives (cursor.step_of log) c l f → (t : ℕ) (s : State) → Every l → in_range s ≡ true
        → t + clocks_in l ≡ end → end ≤ 2000000000 → Told (place_of (moment_of c s t) 0) (changes_from memory l t s) (f + clocks_in l)
    unfolding changes_from clocks_in act_clocks
    acts_said {c = c} (ends f e p) t s w h i b =
        by_over (step_of log memory) (At end) (f + 0) (log_over t s c h (omega arith) e) (omega arith) (omega arith)
    acts_said {c = c} {l = l} (goes f e g p) t s w h i b =
        by_on (step_of log memory) (At end) (f + clocks_in l) (log_on t s c h (omega arith) e) (acts_said g t s w h i b) (omega arith)
    acts_said {c = c} (gives {a = Wait n} {l = l} f e g p) t s w h i b =
        by_on (step_of log memory) (At end) (f + (n + clocks_in l)) (log_wait t s c h (omega arith) n e)
        (wait_said n t s (cursor.step_of log c).state _ _ h w.0.1 (omega arith)
        (acts_said g (t + n) (iterate (chip_clock memory) n s) w.1 (clocks_ranged memory bytes n s h) (omega arith) b)) (omega arith)
    acts_said {c = c} (gives {a = Access x} {l = l} f e g p) t s w h i b =
        by_changed (f + (0 + clocks_in l)) t s (access_state x s) (log_access t s c h (omega arith) x e)
        (acts_said g t (access_state x s) w.1 (access_kept x s (bytewide x w.0) h) (omega arith) b) (omega arith)

module _ (log memory : List ℕ) (long : length memory ≡ 32768) (bytes : Bytes memory) (h : (check_of log).number ≡ 0) where
  -- with the end's clock; a step for each clock at most, and 2,000,002 for the lines
  pub changes_told : Told log memory (clocks (tree_of log)) (place_start log) (changes_from memory (acts (tree_of log)) 0 (power_on (machine_of log)))
      (2000002 + clocks (tree_of log))
  changes_told =
      let c = (clear log h).in_clocks in
      let d = clocks_listed (tree_of log) in
      let every = every_acts (tree_of log) 0 (tree_within log h) in
      rw d at
      (acts_said log memory (clocks (tree_of log)) long bytes (cursor_gives log h) 0 (power_on (machine_of log)) every
      (power_on_in (machine_of log)) (omega arith) c)

  -- in 2,002,000,002 steps at most
  pub changes_said : Gives (step_of log memory) (place_start log) (changes_from memory (acts (tree_of log)) 0 (power_on (machine_of log))) 2002000002
  changes_said =
      let c = (clear log h).in_clocks in
      within (step_of log memory) 2002000002 (omega arith) (only_given (step_of log memory) (At (clocks (tree_of log))) changes_told)
