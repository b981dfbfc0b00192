-- THE STEPS FROM A LOG'S BEGINNING SAY ITS WINDOW, event by event, and then the end, at the window's. Assumes nothing.
--
-- Main definitions: `Told`, from a place on the steps say these events within so many steps, and then the end at its time; `window`, the window of a log
-- that passes, as specs/Window defines it.
-- Main statements: `window_told`, from a log's beginning the steps say the window's events and then its end, in at most 2,000,003 steps and one for each
-- clock; `window_said`, the same in 2,002,000,003 steps at most, whatever the log.
use Prim.Native.Nat.{ℕ, zero, suc, ◌+◌, ◌-◌, ◌≤◌, ◌<◌, min}
use mathlib.Core.Path.{◌≡◌, refl, sym, ap, subst, ◌∙◌}
use mathlib.Core.Bool.{Bool, true, false}
use mathlib.Core.List.{List, [], ◌∷◌, ◌++◌, append_assoc, append-nil}
use native.Mathlib.Nat.{add-zero, zero-add}
use native.Mathlib.Omega.{arith}
use borrow.Author.Tests.{leb-true, leb-false, ltb-true, ltb-false}
use lib.Dec.{leb, ltb}
use lib.ListN.{length}
use Rattle.arith.specs.Iterate.{iterate}
use Rattle.arith.specs.Pick.{pick}
use Rattle.arith.proofs.IterateLaws.{iterate_keeps, iterate_add}
use Rattle.bus.specs.declared.Access as busAccess
use Rattle.bus.specs.declared.Access.TheVariants as bus
use Rattle.log_line.specs.declared.Act.{Act}
use Rattle.log_line.specs.declared.Act.TheVariants.{Wait, Access}
use Rattle.log_line.specs.Printed.{Allowed}
use Rattle.recording.specs.Whole.{machine_of}
use Rattle.log_rules.specs.Tree.{acts, clocks, act_clocks}
use Rattle.recording.specs.Whole.{tree_of, check_of}
use Rattle.log_passing.proofs.ActLaws.{Every, every_acts, clocks_in, clocks_listed}
use Rattle.recording.proofs.Passing.{clear, tree_within}
use Rattle.recording_cursor.specs.declared.Cursor.{Cursor}
use Rattle.recording_cursor.specs.Stepping as cursor
use Rattle.recording_cursor.proofs.Whole.{cursor_gives}
use Rattle.reading.specs.Saying.{says, Gives, ends, goes, gives}
use Rattle.reading.proofs.SayingLaws.{within}
use Rattle.chip.specs.Clock.{chip_clock}
use Rattle.chip.specs.Range.{in_range, power_on, Bytes}
use Rattle.chip.specs.declared.State.{State}
use Rattle.chip.proofs.RangeLaws.{StateRanged, state_in_lem, state_back, clock_kept, power_on_in}
use Rattle.chip_access.specs.Access.{access_state}
use Rattle.chip_access.proofs.AccessLaws.{Bytewide, access_kept}
use Rattle.chip_seen.specs.Seen.{seen_of, same_seen}
use Rattle.play_walk.specs.Walk.{moment_of}
use Rattle.play_walk.proofs.WalkLaws.{some_left}
use Rattle.play_interrupts.proofs.Telling.{Tells, only_given, by_says, by_on, by_over}
use Rattle.play_trace.specs.declared.Event.{Event}
use Rattle.play_trace.specs.declared.Event.TheVariants.{Begins, Clocked}
use Rattle.play_trace.specs.declared.Place.{Place}
use Rattle.play_trace.specs.Window.{shown_at, clock_event, clocks_events, access_event, events_from, end_from, Window, opened, window_from}
use Rattle.play_trace.specs.Stepping.{go, place_of, place_start, until_seen, event_said, step_of, place_time}
use Rattle.play_trace.proofs.EventLaws.{events_add, until_events, until_most, until_some}
use Rattle.play_trace.proofs.PlaceLaws.{inside_ends, log_over, log_on, log_wait, log_access, clocks_on_lem}
use Rattle.play_trace.proofs.PlaceLaws.{begins, far_over, far_on, far_wait, far_access, far_clocks}
use Rattle.play_trace.proofs.WindowLaws.{opened_now, opened_end, later_access, later_wait, within_wait}

-- a value that a log writes is a byte
bytewide : (x : busAccess.Access) → Allowed (Access x) → Bytewide x
bytewide (bus.Write r v) w = w.1
bytewide bus.Read w = tt

clocks_ranged : (memory : List ℕ) → Bytes memory → (n : ℕ) (s : State) → in_range s ≡ true → in_range (iterate (chip_clock memory) n s) ≡ true
clocks_ranged memory bytes n s h = state_back _ (iterate_keeps StateRanged (chip_clock memory) (clock_kept memory bytes) n s (state_in_lem s h))

-- one of two numbers is the lesser
either_way : {A : Type 0} (a b : ℕ) → (a ≤ b → A) → (b < a → A) → A
either_way {A = A} a b f g = by (leb a b) refl
  where
    by : (x : Bool) → leb a b ≡ x → A
    by true e = f (leb-true a b e)
    by false e = g (leb-false a b e)

-- of so many clocks, up to a wait's end or the window's, k are done
least_most : (m n x : ℕ) → m ≡ min n x → m ≤ n
least_most m n x e = omega arith

least_rest : (m n t u k : ℕ) → m ≡ min n (u - t) → k ≤ m → m - k ≡ min (n - k) (u - (t + k))
least_rest m n t u k e h = omega arith

-- of more than 500 accesses at a clock no more are counted
access_capped : (t k d : ℕ) (x : busAccess.Access) (s next : State) → d ≡ min k 500 → access_event t (d + 1) x s next ≡ access_event t (k + 1) x s next
unfolding access_event shown_at
access_capped t k d x s next h = let e : min (d + 1) 500 ≡ min (k + 1) 500 = omega arith in rw e

end_capped : (c : Cursor) (n t k d : ℕ) (s : State) → d ≡ min k 500 → place_time (place_of (moment_of c s t) n d true) ≡ (shown_at s t k).time
unfolding place_time shown_at
end_capped c n t k d s h = let e : min d 500 ≡ min k 500 = omega arith in rw e

-- a place whose nanoseconds are `end`
abbrev pub At : ℕ → Place → Type 0
At end p = place_time p ≡ end

module _ (log memory : List ℕ) (from until : ℕ) where
  -- the events l are said from a place on, within f steps, and then the end at its time
  abbrev pub Told : ℕ → Place → List Event → ℕ → Type 0
  Told end p l f = Tells (step_of log memory from until) (At end) p l f

  -- a step that says an event, or nothing
  by_clock : {p q : Place} {l : List Event} {k : ℕ} (end f t : ℕ) (s next : State) → step_of log memory from until p ≡ go (event_said (clock_event t s next)) q
      → Told end q l k → k < f → Told end p (clock_event t s next ++ l) f
  unfolding clock_event event_said
  by_clock {p = p} {q = q} {l = l} end f t s next e g h = by (same_seen (seen_of s) (seen_of next)) e
    where
      by : (b : Bool) → step_of log memory from until p ≡ go (event_said (pick b [] (Clocked (seen_of s) (shown_at next t 0) ∷ []))) q
          → Told end p (pick b [] (Clocked (seen_of s) (shown_at next t 0) ∷ []) ++ l) f
      by true e = by_on (step_of log memory from until) (At end) f e g h
      by false e = by_says (step_of log memory from until) (At end) f e g h

  module _ (long : length memory ≡ 32768) (bytes : Bytes memory) where
    -- no clock of a wait left
    wait_none : (end n t : ℕ) (s : State) (c : Cursor) {l : List Event} {f : ℕ}
        → Told end (place_of (moment_of c (iterate (chip_clock memory) 0 s) (t + 0)) n 0 true) l f
        → Told end (place_of (moment_of c s t) n 0 true) (clocks_events memory 0 t s ++ l) (0 + f)
    unfolding clocks_events iterate
    wait_none end n t s c g = rw (zero-add) (rw (add-zero t) at g)

    -- k clocks of a wait, and the others
    split : (n k t : ℕ) (s : State) (l : List Event) → k ≤ n → k ≡ until_seen memory n s
        → clock_event (t + k) s (iterate (chip_clock memory) k s) ++ (clocks_events memory (n - k) (t + k) (iterate (chip_clock memory) k s) ++ l)
        ≡ clocks_events memory n t s ++ l
    split n k t s l h e =
        let far = iterate (chip_clock memory) k s in
        let whole : k + (n - k) ≡ n = omega arith in
        let first : clocks_events memory k t s ≡ clock_event (t + k) s far = rw e (until_events memory n t s) in
        sym (append_assoc (clock_event (t + k) s far) (clocks_events memory (n - k) (t + k) far) l)
        ∙ ap (λ (x : List Event). x ++ l)
        (ap (λ (x : List Event). x ++ clocks_events memory (n - k) (t + k) far) (sym first)
        ∙ (sym (events_add memory k (n - k) t s) ∙ ap (λ (i : ℕ). clocks_events memory i t s) whole))

    -- m CLOCKS OF A WAIT, up to its end or the window's, within as many steps
    abbrev WaitSaid : ℕ → Type 0
    WaitSaid m =
        (end n t : ℕ) (s : State) (c : Cursor) (l : List Event) (f : ℕ) → in_range s ≡ true → n ≤ 1000000 → t + n ≤ 2000000000 → m ≡ min n (until - t)
        → Told end (place_of (moment_of c (iterate (chip_clock memory) m s) (t + m)) (n - m) 0 true) l f
        → Told end (place_of (moment_of c s t) n 0 true) (clocks_events memory m t s ++ l) (m + f)

    wait_on_lem : (m : ℕ) → ((k : ℕ) → k < m → WaitSaid k) → WaitSaid m
    wait_on_lem zero others end n t s c l f ranged low early e g =
        let z : n - 0 ≡ n = omega arith in
        wait_none end n t s c
        (subst (λ (i : ℕ). Told end (place_of (moment_of c (iterate (chip_clock memory) 0 s) (t + 0)) i 0 true) l f) z g)
    wait_on_lem (suc i) others end n t s c l f ranged low early e g =
        let m = suc i in
        let k = until_seen memory m s in
        let most = until_most memory m s in
        let some = until_some memory i s in
        let far = iterate (chip_clock memory) k s in
        let all = least_most m n (until - t) e in
        let whole : k + (m - k) ≡ m = omega arith in
        let state : iterate (chip_clock memory) m s ≡ iterate (chip_clock memory) (m - k) far =
        ap (λ (j : ℕ). iterate (chip_clock memory) j s) (sym whole) ∙ iterate_add (chip_clock memory) k (m - k) s in
        let time : t + m ≡ t + k + (m - k) = omega (arith, whole) in
        let left : n - m ≡ n - k - (m - k) = omega (arith, whole) in
        let g' : Told end (place_of (moment_of c (iterate (chip_clock memory) (m - k) far) (t + k + (m - k))) (n - k - (m - k)) 0 true) l f =
        rw (← state, ← time, ← left) g in
        let r = others (m - k) (omega arith) end (n - k) (t + k) far c l f (clocks_ranged memory bytes k s ranged) (omega (arith, low)) (omega (arith, early, all))
        (least_rest m n t until k e most) g' in
        rw (← split m k t s l most refl)
        (by_clock end (m + f) (t + k) s far
        (clocks_on_lem log memory from until long t s c ranged (omega arith) 0 (omega arith) n m k low (λ z. omega arith) e refl) r (omega arith))

    wait_below : (b m : ℕ) → m < b → WaitSaid m
    wait_below zero m h = absurd (omega arith)
    wait_below (suc b) m h = wait_on_lem m (λ k i. wait_below b k (omega arith))

    wait_said : (m : ℕ) → WaitSaid m
    wait_said m = wait_below (suc m) m (omega arith)

    -- A WAIT in the window, and the acts behind it where it ends before the window
    wait_acts : (n t k : ℕ) (s : State) (c : Cursor) (l : List Act) (f : ℕ) → in_range s ≡ true → n ≤ 1000000 → t + n ≤ 2000000000 → t < until → 0 < f
        → (t + n < until → Told (end_from memory until l (t + n) 0 (iterate (chip_clock memory) n s)).time
        (place_of (moment_of c (iterate (chip_clock memory) n s) (t + n)) 0 0 true) (events_from memory until l (t + n) 0 (iterate (chip_clock memory) n s)) f)
        → Told (end_from memory until (Wait n ∷ l) t k s).time (place_of (moment_of c s t) n 0 true) (events_from memory until (Wait n ∷ l) t k s) (n + f)
    unfolding events_from end_from
    wait_acts n t k s c l f ranged low early soon some rest = by (ltb (t + n) until) refl
      where
        by : (b : Bool) → ltb (t + n) until ≡ b
            → Told (pick b (end_from memory until l (t + n) 0 (iterate (chip_clock memory) n s)) (shown_at (iterate (chip_clock memory) (until - t) s) until 0)).time
            (place_of (moment_of c s t) n 0 true)
            (pick b (clocks_events memory n t s ++ events_from memory until l (t + n) 0 (iterate (chip_clock memory) n s)) (clocks_events memory (until - t) t s)) (n + f)
        by true e =
            let h = ltb-true (t + n) until e in
            let z : 0 ≡ n - n = omega arith in
            let end = (end_from memory until l (t + n) 0 (iterate (chip_clock memory) n s)).time in
            wait_said n end n t s c _ f ranged low early (omega arith)
            (subst (λ (i : ℕ). Told end (place_of (moment_of c (iterate (chip_clock memory) n s) (t + n)) i 0 true)
            (events_from memory until l (t + n) 0 (iterate (chip_clock memory) n s)) f) z (rest h))
        by false e =
            let h = ltb-false (t + n) until e in
            let there = iterate (chip_clock memory) (until - t) s in
            let z : t + (until - t) ≡ until = omega arith in
            let u : until - t + (n + f - (until - t)) ≡ n + f = omega arith in
            let end = (shown_at there until 0).time in
            let now = place_time (place_of (moment_of c there (t + (until - t))) (n - (until - t)) 0 true) in
            let last : now ≡ end = rw z (end_capped c (n - (until - t)) until 0 0 there refl) in
            let g = by_over (step_of log memory from until) (At end) (n + f - (until - t))
            (inside_ends log memory from until long (t + (until - t)) there c (clocks_ranged memory bytes (until - t) s ranged) (omega arith)
            (n - (until - t)) 0 (omega arith) (omega arith)) last
            (omega arith) in
            let r = wait_said (until - t) end n t s c [] (n + f - (until - t)) ranged low early (omega arith) g in
            subst (λ (i : ℕ). Told end (place_of (moment_of c s t) n 0 true) (clocks_events memory (until - t) t s) i) u
            (rw (append-nil (clocks_events memory (until - t) t s)) at r)

    -- THE ACTS from the window's beginning on; of the k accesses done at this clock d are counted
    acts_said : {c : Cursor} {l : List Act} {f : ℕ} → Gives (cursor.step_of log) c l f → (t k d : ℕ) (s : State) → Every l → in_range s ≡ true
        → t + clocks_in l ≤ 2000000000 → t < until → d ≡ min k 500
        → Told (end_from memory until l t k s).time (place_of (moment_of c s t) 0 d true) (events_from memory until l t k s) (f + clocks_in l)
    unfolding events_from end_from clocks_in act_clocks
    acts_said {c = c} (ends f e p) t k d s w h b u i =
        by_over (step_of log memory from until) (At (shown_at s t k).time) (f + 0) (log_over log memory from until long t s c h (omega arith) d u e)
        (end_capped (cursor.step_of log c).state 0 t k d s i) (omega arith)
    acts_said {c = c} {l = l} (goes f e g p) t k d s w h b u i =
        by_on (step_of log memory from until) (At (end_from memory until l t k s).time) (f + clocks_in l)
        (log_on log memory from until long t s c h (omega arith) d u e) (acts_said g t k d s w h b u i) (omega arith)
    acts_said {c = c} (gives {a = Wait n} {l = l} {k = j} f e g p) t k d s w h b u i =
        by_on (step_of log memory from until) (At (end_from memory until (Wait n ∷ l) t k s).time) (f + (n + clocks_in l))
        (log_wait log memory from until long t s c h (omega arith) d u n e)
        (wait_acts n t k s (cursor.step_of log c).state l (j + clocks_in l) h w.0.1 (omega arith) u (omega (arith, some_left log g))
        (λ v. acts_said g (t + n) 0 0 (iterate (chip_clock memory) n s) w.1 (clocks_ranged memory bytes n s h) (omega arith) v refl)) (omega arith)
    acts_said {c = c} (gives {a = Access x} {l = l} f e g p) t k d s w h b u i =
        rw (← access_capped t k d x s (access_state x s) i)
        (by_says (step_of log memory from until) (At (end_from memory until l t (k + 1) (access_state x s)).time) (f + (0 + clocks_in l))
        (log_access log memory from until long t s c h (omega arith) d u x e)
        (acts_said g t (k + 1) (min (d + 1) 500) (access_state x s) w.1 (access_kept x s (bytewide x w.0) h) (omega arith) u (omega arith)) (omega arith))

    module _ (order : from < until) where
      -- the window of the acts l is said from a place before it
      abbrev Shown : Cursor → List Act → ℕ → ℕ → State → Type 0
      Shown c l f t s =
          Told (window_from memory from until l t s).end.time (place_of (moment_of c s t) 0 0 false) (window_from memory from until l t s).events
          (1 + (f + clocks_in l))

      -- it begins where the cursor stands
      now_said : {c : Cursor} {l : List Act} {f : ℕ} → Gives (cursor.step_of log) c l f → (t : ℕ) (s : State) → Every l → in_range s ≡ true
          → t + clocks_in l ≤ 2000000000 → t < until
          → step_of log memory from until (place_of (moment_of c s t) 0 0 false) ≡ go (says (Begins (shown_at s t 0))) (place_of (moment_of c s t) 0 0 true)
          → window_from memory from until l t s ≡ opened memory until l t s → Shown c l f t s
      unfolding opened
      now_said {c = c} {l = l} {f = f} g t s w h b u e i =
          rw i
          (by_says (step_of log memory from until) (At (end_from memory until l t 0 s).time) (1 + (f + clocks_in l)) e (acts_said g t 0 0 s w h b u refl)
          (omega arith))

      reached : {c : Cursor} {l : List Act} {f : ℕ} → Gives (cursor.step_of log) c l f → (t : ℕ) (s : State) → Every l → in_range s ≡ true
          → t + clocks_in l ≤ 2000000000 → t ≤ from → from ≤ t → Shown c l f t s
      reached {c = c} {l = l} g t s w h b u v =
          now_said g t s w h b (omega arith) (begins log memory from until long t s c h (omega arith) 0 (omega arith) v) (opened_now memory from until l t s v)

      -- a wait that it begins in: the clocks up to it, its beginning, and the rest
      part_said : {c : Cursor} {l : List Act} {f : ℕ} → Gives (cursor.step_of log) c l f → (n t : ℕ) (s : State) → Every l → in_range s ≡ true
          → n ≤ 1000000 → t + (n + clocks_in l) ≤ 2000000000 → t < from → from < t + n
          → Told (window_from memory from until (Wait n ∷ l) t s).end.time (place_of (moment_of c s t) n 0 false)
          (window_from memory from until (Wait n ∷ l) t s).events (1 + (f + (n + clocks_in l)))
      unfolding opened
      part_said {c = c} {l = l} {f = f} g n t s w h low b u v =
          let j = from - t in
          let there = iterate (chip_clock memory) j s in
          let ranged = clocks_ranged memory bytes j s h in
          let end = (end_from memory until (Wait (n - j) ∷ l) from 0 there).time in
          let r = wait_acts (n - j) from 0 there c l (f + clocks_in l) ranged (omega arith) (omega arith) order (omega (arith, some_left log g))
          (λ x. acts_said g (from + (n - j)) 0 0 (iterate (chip_clock memory) (n - j) there) w (clocks_ranged memory bytes (n - j) there ranged)
          (omega arith) x refl) in
          rw (within_wait memory from until n l t s u v)
          (by_on (step_of log memory from until) (At end) (1 + (f + (n + clocks_in l)))
          (far_clocks log memory from until long t s c h (omega arith) u n j (n - j) from low (λ z. omega arith) (omega arith) refl (omega arith))
          (by_says (step_of log memory from until) (At end) (1 + (n - j + (f + clocks_in l)))
          (begins log memory from until long from there c ranged (omega arith) (n - j) (omega arith) (omega arith)) r (omega arith)) (omega arith))

      window_from_lem : {c : Cursor} {l : List Act} {f : ℕ} → Gives (cursor.step_of log) c l f → (t : ℕ) (s : State) → Every l → in_range s ≡ true
          → t + clocks_in l ≤ 2000000000 → t ≤ from → Shown c l f t s
      unfolding clocks_in act_clocks
      window_from_lem {c = c} (ends f e p) t s w h b u =
          either_way from t (λ v. reached (ends f e p) t s w h b u v)
          (λ v. now_said (ends f e p) t s w h b (omega arith) (far_over log memory from until long t s c h (omega arith) v e) (opened_end memory from until t s))
      window_from_lem {c = c} {l = l} (goes f e g p) t s w h b u =
          either_way from t (λ v. reached (goes f e g p) t s w h b u v)
          (λ v. by_on (step_of log memory from until) (At (window_from memory from until l t s).end.time) (1 + (f + clocks_in l))
          (far_on log memory from until long t s c h (omega arith) v e) (window_from_lem g t s w h b u) (omega arith))
      window_from_lem {c = c} (gives {a = Wait n} {l = l} {k = j} f e g p) t s w h b u =
          either_way from t (λ v. reached (gives {a = Wait n} f e g p) t s w h b u v)
          (λ v. by_on (step_of log memory from until) (At (window_from memory from until (Wait n ∷ l) t s).end.time) (1 + (f + (n + clocks_in l)))
          (far_wait log memory from until long t s c h (omega arith) v n e)
          (either_way (t + n) from
          (λ x. rw (later_wait memory from until n l t s v x)
          (by_on (step_of log memory from until) (At (window_from memory from until l (t + n) (iterate (chip_clock memory) n s)).end.time) (1 + (j + (n + clocks_in l)))
          (far_clocks log memory from until long t s (cursor.step_of log c).state h (omega arith) v n n 0 (t + n) w.0.1 (λ z. omega (arith, w.0.0))
          (omega arith) (omega arith) refl)
          (window_from_lem g (t + n) (iterate (chip_clock memory) n s) w.1 (clocks_ranged memory bytes n s h) (omega arith) x) (omega (arith, w.0.0))))
          (λ x. part_said g n t s w.1 h w.0.1 b v x)) (omega arith))
      window_from_lem {c = c} (gives {a = Access x} {l = l} f e g p) t s w h b u =
          either_way from t (λ v. reached (gives {a = Access x} f e g p) t s w h b u v)
          (λ v. rw (later_access memory from until x l t s v)
          (by_on (step_of log memory from until) (At (window_from memory from until l t (access_state x s)).end.time) (1 + (f + (0 + clocks_in l)))
          (far_access log memory from until long t s c h (omega arith) v x e)
          (window_from_lem g t (access_state x s) w.1 (access_kept x s (bytewide x w.0) h) (omega arith) u) (omega arith)))

module _ (log memory : List ℕ) (from until : ℕ) (order : from < until) (long : length memory ≡ 32768) (bytes : Bytes memory) (h : (check_of log).number ≡ 0) where
  abbrev pub window : Window
  window = window_from memory from until (acts (tree_of log)) 0 (power_on (machine_of log))

  -- with the end's time; a step for each clock at most, 2,000,002 for the lines, and one for the beginning
  pub window_told : Told log memory from until window.end.time (place_start log) window.events (2000003 + clocks (tree_of log))
  window_told =
      let c = (clear log h).in_clocks in
      let d = clocks_listed (tree_of log) in
      let every = every_acts (tree_of log) 0 (tree_within log h) in
      let e : 1 + (2000002 + clocks_in (acts (tree_of log))) ≡ 2000003 + clocks (tree_of log) = omega (arith, d) in
      subst (λ (i : ℕ). Told log memory from until window.end.time (place_start log) window.events i) e
      (window_from_lem log memory from until long bytes order (cursor_gives log h) 0 (power_on (machine_of log)) every
      (power_on_in (machine_of log)) (omega (arith, c, d)) (omega arith))

  -- in 2,002,000,003 steps at most
  pub window_said : Gives (step_of log memory from until) (place_start log) window.events 2002000003
  window_said =
      let c = (clear log h).in_clocks in
      within (step_of log memory from until) 2002000003 (omega (arith, c))
      (only_given (step_of log memory from until) (At window.end.time) window_told)
