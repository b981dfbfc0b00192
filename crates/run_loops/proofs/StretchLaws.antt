-- What a stretch's loops hold, and how an event keeps it. Assumes nothing.
--
-- Main definitions: `Untouched`, a stretch in which no event has come yet. What the loops hold is defined in specs/Stretch (`Standing`, `Worked`,
-- `Stretched`), what a quiet stretch owes in specs/Leap (`Passed`).
-- Main statements: `worked_start`, the loops' facts hold where a stretch begins; `worked_event`, they still hold behind the next event, with its record
-- where the level is another; `voices_worked`, the same for an event of squares and triangle alone; `worked_on`, two parts one after the other are one;
-- `worked_stop`, a stop before the next event makes a stretch; `untouched_passed`, from a quiet state the stretch goes to its end by the law of the leap.
use Prim.Native.Nat.{ℕ, ◌+◌, ◌-◌, ◌/◌, ◌≤◌, ◌<◌}
use mathlib.Core.Path.{◌≡◌, refl, sym, ap, ◌∙◌}
use mathlib.Core.Bool.{Bool, true, false}
use mathlib.Core.List.{List}
use native.Mathlib.Omega.{arith}
use lib.Dec.{eqb, ltb}
use lib.ListN.{length, length-set}
use borrow.Author.Tests.{eqb-true, eqb-false, ltb-true}
use Rattle.arith.specs.Iterate.{iterate}
use Rattle.arith.specs.Pick.{pick, both}
use Rattle.arith.proofs.PickLaws.{both_left, both_right}
use Rattle.arith.proofs.IterateLaws.{iterate_zero, iterate_add, iterate_more, iterate_keeps}
use Rattle.leap_still.specs.Forever.{forever}
use Rattle.leap_law.specs.Frame.{before_step}
use Rattle.leap_law.proofs.FrameLaws.{before_step_most}
use Rattle.chip.specs.Clock.{chip_clock}
use Rattle.chip.specs.Level.{state_level}
use Rattle.chip.specs.Range.{in_range, Bytes}
use Rattle.chip.specs.declared.State.{State}
use Rattle.chip.proofs.RangeLaws.{StateRanged, state_in_lem, state_back, clock_kept}
use Rattle.leap_stretch.specs.Lagged.{lags_at, lags_of, renewed_with, renewed, voices_renewed, stretch_state}
use Rattle.leap_stretch.specs.declared.Lags.{Lags}
use Rattle.leap_stretch.specs.Voices.{voices_of, voices_to, voices_after, voices_level, lags_with}
use Rattle.leap_stretch.specs.declared.Voices.{Voices}
use Rattle.leap_stretch.proofs.VoicesLaws.{Sound, sound_after, voices_start, event_of_voices}
use Rattle.chip_mixer.specs.Parts.{others_weight}
use Rattle.leap_stretch.proofs.LaggedLaws.{sooner_most, lagging_start, soon_past, next_past, next_soon, lagging_renewed, lagging_level, lagging_state, event_level}
use Rattle.leap_stretch.proofs.WaitLaws.{voices_renewed_lem}
use Rattle.run_answer.specs.Run.{room_of, stored}
use Rattle.run_answer.specs.Held.{Held}
use Rattle.run_answer.proofs.WordLaws.{stored_in}
use Rattle.run_answer.proofs.RunLaws.{held_at, held_length, held_leap, held_same, held_mark}
use Rattle.leap_law.specs.Quiet.{Quiet}
use Rattle.leap_stretch.proofs.QuietLaws.{quiet_leaps, quiet_passed}
use Rattle.run_loops.specs.Leap.{stretch_end, Passed}
use Rattle.run_loops.specs.Stretch.{Standing, Worked, Stretched}

-- where the loops end
pub goes_on_lem : (r : Bool) (next until n room : ℕ) → r ≡ both (ltb next until) (ltb n room) → r ≡ true → (next < until) × (n < room)
goes_on_lem r next until n room e h =
    let b = sym e ∙ h in
    (ltb-true next until (both_left (ltb next until) (ltb n room) b), ltb-true n room (both_right (ltb next until) (ltb n room) b))

-- a stretch ends before the last clock left, and before the next frame step
pub stretch_most : (left : ℕ) (s : State) → (stretch_end left s ≤ left - 1) × (stretch_end left s ≤ before_step s)
unfolding stretch_end
stretch_most left s = sooner_most (left - 1) (before_step s)

-- nothing done yet
pub worked_none : (memory : List ℕ) (s : State) (end base : ℕ) (words : List ℕ) (l : Lags) (n : ℕ) → Standing memory s end base words l n
    → Worked memory s end base l.now n words words l n
worked_none memory s end base words l n g =
    record { standing = g; on = omega arith; same_length = refl; held = λ s₀ words₀ q. q }

-- one part after another
pub worked_on : (memory : List ℕ) (s : State) (end base from records : ℕ) (before between words : List ℕ) (l₀ l : Lags) (n₀ n : ℕ)
    → Worked memory s end base from records before between l₀ n₀ → Worked memory s end base l₀.now n₀ between words l n
    → Worked memory s end base from records before words l n
worked_on memory s end base from records before between words l₀ l n₀ n a b =
    record {
      standing = b.standing;
      on = omega (arith, a.on, b.on);
      same_length = b.same_length ∙ a.same_length;
      held = λ s₀ words₀ q. b.held s₀ words₀ (a.held s₀ words₀ q);
    }

-- the start of a stretch
pub standing_start : (memory : List ℕ) (s : State) (end base : ℕ) (words : List ℕ) (n : ℕ) → in_range s ≡ true → end ≤ before_step s
    → base + end ≤ 1000000 → n ≤ base → n ≤ length words / 2 → Standing memory s end base words (lags_of s) n
unfolding lags_of lags_at
standing_start memory s end base words n r b f h m =
    record { ranged = r; short = b; far = f; lagging = lagging_start memory s; now = omega arith; most = m; few = omega arith }

pub worked_start : (memory : List ℕ) (s : State) (end base : ℕ) (words : List ℕ) (n : ℕ) → in_range s ≡ true → end ≤ before_step s
    → base + end ≤ 1000000 → n ≤ base → n ≤ length words / 2 → Worked memory s end base 0 n words words (lags_of s) n
unfolding lags_of lags_at
worked_start memory s end base words n r b f h m =
    worked_none memory s end base words (lags_of s) n (standing_start memory s end base words n r b f h m)

-- a stretch in which no event has come
pub record Untouched (s : State) (records : ℕ) (before : List ℕ) (l : Lags) (n : ℕ) (words : List ℕ) : Type 0 where
  pub lags : l ≡ lags_of s
  pub same_records : n ≡ records
  pub same_words : words ≡ before

pub untouched_start : (s : State) (n : ℕ) (words : List ℕ) (l : Lags) → l ≡ lags_of s → Untouched s n words l n words
untouched_start s n words l e = record { lags = e; same_records = refl; same_words = refl }

module _ (memory : List ℕ) (s : State) (end base from records : ℕ) (before words : List ℕ) (l : Lags) (n : ℕ)
    (w : Worked memory s end base from records before words l n) (q : Quiet s) (u : Untouched s records before l n words) where
  -- from a quiet state no event comes before the end
  quiet_past : end < l.next
  quiet_past = rw u.lags (omega (arith, quiet_leaps s q, w.standing.short))

  pub untouched_goes : {A : Type 0} → l.next ≤ end → A
  untouched_goes e = absurd (let p = quiet_past in omega arith)

  -- and its end is the law's
  pub untouched_passed : (k : ℕ) → k ≤ end → (end < l.next → end ≤ k)
      → Passed s end records before words (record { state = stretch_state s l k; clocks = k; records = n; level = l.level })
  untouched_passed k m far =
      let z : k ≡ end = omega (arith, far quiet_past) in
      record {
        clocks = z;
        records = u.same_records;
        words = u.same_words;
        state =
            rw (z, u.lags) (quiet_passed s (state_in_lem s w.standing.ranged) q end w.standing.short);
      }

module _ (memory : List ℕ) (bytes : Bytes memory) (s : State) (end base from records : ℕ) (before words : List ℕ) (l : Lags) (n : ℕ)
    (w : Worked memory s end base from records before words l n) where
  abbrev at : Standing memory s end base words l n
  at = w.standing

  r : StateRanged s
  r = state_in_lem s w.standing.ranged

  ranged : (k : ℕ) → in_range (iterate (chip_clock memory) k s) ≡ true
  ranged k = state_back _ (iterate_keeps StateRanged (chip_clock memory) (clock_kept memory bytes) k s r)

  -- the next event is past now
  pub past : l.now < l.next
  past = next_past memory s l w.standing.lagging

  -- at any clock up to the next event
  to : (k : ℕ) → l.now ≤ k → k < l.next → k ≤ end → (s₀ : State) (words₀ : List ℕ)
      → Held memory s₀ words₀ before (iterate (chip_clock memory) from s) (base + from) records
      → Held memory s₀ words₀ words (iterate (chip_clock memory) k s) (base + k) n
  to k h q m s₀ words₀ x =
      held_at
      (sym (iterate_add (chip_clock memory) l.now (k - l.now) s) ∙ ap (λ (i : ℕ). iterate (chip_clock memory) i s) (omega arith))
      (omega arith)
      (held_leap memory s₀ words₀ words (iterate (chip_clock memory) l.now s) (base + l.now) n (w.held s₀ words₀ x) (k - l.now) quiet)
    where
      quiet : (i : ℕ) → i ≤ k - l.now
          → state_level (iterate (chip_clock memory) i (iterate (chip_clock memory) l.now s)) ≡ state_level (iterate (chip_clock memory) l.now s)
      quiet i p =
          let b = w.standing.short in
          ap state_level (sym (iterate_add (chip_clock memory) l.now i s))
          ∙ lagging_level memory bytes s r l w.standing.lagging (l.now + i) (omega arith) (omega arith) (omega arith)
          ∙ sym (lagging_level memory bytes s r l w.standing.lagging l.now (omega arith) (omega arith) (omega (arith, w.standing.now)))

  -- a stop before the next event
  pub worked_stop : (k : ℕ) → l.now ≤ k → k < l.next → k ≤ end → from ≡ 0
      → (Quiet s → Passed s end records before words (record { state = stretch_state s l k; clocks = k; records = n; level = l.level }))
      → Stretched memory s end base records before words (record { state = stretch_state s l k; clocks = k; records = n; level = l.level })
  worked_stop k h q m z passes =
      let b = w.standing.short in
      let here = lagging_state memory bytes s r l w.standing.lagging k h q (omega arith) in
      record {
        most = m;
        level = sym (ap state_level here ∙ lagging_level memory bytes s r l w.standing.lagging k h q (omega arith));
        ranged = rw here (ranged k);
        held =
            λ s₀ words₀ x.
            rw here
            (to k h q m s₀ words₀
            (held_at (sym (iterate_zero (chip_clock memory) s) ∙ ap (λ (i : ℕ). iterate (chip_clock memory) i s) (sym z)) (omega arith) x));
        quiet = passes;
      }

  module _ (e : l.next ≤ end) where
    reach : l.next ≤ forever
    reach = omega (arith, before_step_most s, w.standing.short)

    brink : State
    brink = iterate (chip_clock memory) (l.next - 1) s

    over_brink : chip_clock memory brink ≡ iterate (chip_clock memory) l.next s
    unfolding brink
    over_brink =
        let p = past in
        sym (iterate_more (chip_clock memory) (l.next - 1) s) ∙ ap (λ (i : ℕ). iterate (chip_clock memory) i s) (omega arith)

    level_brink : state_level brink ≡ l.level
    unfolding brink
    level_brink =
        let p = past in
        let b = w.standing.short in
        lagging_level memory bytes s r l w.standing.lagging (l.next - 1) (omega arith) (omega arith) (omega arith)

    level_over : state_level (chip_clock memory brink) ≡ (renewed memory l l.next).level
    level_over =
        let b = w.standing.short in
        ap state_level over_brink ∙ event_level memory bytes s r l w.standing.lagging (omega arith)

    held_brink : (s₀ : State) (words₀ : List ℕ)
        → Held memory s₀ words₀ before (iterate (chip_clock memory) from s) (base + from) records
        → Held memory s₀ words₀ words brink (base + (l.next - 1)) n
    unfolding brink
    held_brink = let p = past in to (l.next - 1) (omega arith) (omega arith) (omega arith)

    count_over : base + (l.next - 1) + 1 ≡ base + l.next
    count_over = let p = past in omega arith

    -- an event that leaves the level
    worked_same : (renewed memory l l.next).level ≡ l.level
        → Worked memory s end base from records before words (renewed memory l l.next) n
    unfolding renewed renewed_with lags_at
    worked_same q =
        let p = past in
        record {
          standing =
              record {
                ranged = w.standing.ranged;
                short = w.standing.short;
                far = w.standing.far;
                lagging = lagging_renewed memory bytes s r l w.standing.lagging reach;
                now = e;
                most = w.standing.most;
                few = omega (arith, w.standing.few);
              };
          on = omega (arith, w.on);
          same_length = w.same_length;
          held =
              λ s₀ words₀ x.
              held_at over_brink count_over
              (held_same memory s₀ words₀ words brink (base + (l.next - 1)) n (held_brink s₀ words₀ x) (level_over ∙ q ∙ sym level_brink));
        }

    changes : ((renewed memory l l.next).level ≡ l.level → ⊥) → state_level (chip_clock memory brink) ≡ state_level brink → ⊥
    changes q z = q (sym level_over ∙ z ∙ level_brink)

    -- an event with its record
    worked_mark : ((renewed memory l l.next).level ≡ l.level → ⊥) → n < room_of words
        → Worked memory s end base from records before (stored words n (base + l.next) (renewed memory l l.next).level)
        (renewed memory l l.next) (n + 1)
    unfolding renewed renewed_with lags_at
    worked_mark q m =
        let p = past in
        let same : length (stored words n (base + l.next) (renewed memory l l.next).level) ≡ length words =
        ap length (stored_in words n (base + l.next) (renewed memory l l.next).level (omega arith)) ∙ simp length-set refl
        in
        record {
          standing =
              record {
                ranged = w.standing.ranged;
                short = w.standing.short;
                far = w.standing.far;
                lagging = lagging_renewed memory bytes s r l w.standing.lagging reach;
                now = e;
                most = omega (arith, same);
                few = omega (arith, w.standing.few);
              };
          on = omega (arith, w.on);
          same_length = same ∙ w.same_length;
          held =
              λ s₀ words₀ x.
              let room : n < room_of words₀ =
              omega (arith, w.same_length, held_length memory s₀ words₀ before (iterate (chip_clock memory) from s) (base + from) records x)
              in
              let y = held_mark memory s₀ words₀ words brink (base + (l.next - 1)) n (held_brink s₀ words₀ x) (changes q) room in
              held_at over_brink refl (rw (level_over, count_over) at y);
        }

    -- ONE EVENT, with its record where the level is another
    pub worked_event : n < room_of words → (after : Lags) → after ≡ renewed memory l l.next → (now : List ℕ) (m : ℕ)
        → m ≡ pick (eqb after.level l.level) n (n + 1)
        → now ≡ pick (eqb after.level l.level) words (stored words n (base + l.next) after.level)
        → Worked memory s end base from records before now after m
    worked_event m after z now k y x = rw (y, x, z) (go (eqb (renewed memory l l.next).level l.level) refl)
      where
        go : (t : Bool) → eqb (renewed memory l l.next).level l.level ≡ t
            → Worked memory s end base from records before
            (pick t words (stored words n (base + l.next) (renewed memory l l.next).level)) (renewed memory l l.next) (pick t n (n + 1))
        go true d = worked_same (eqb-true _ _ d)
        go false d = worked_mark (eqb-false _ _ d) m

-- an event is at the clock that was its next
pub event_now : (memory : List ℕ) (l : Lags) (e : ℕ) → (renewed memory l e).now ≡ e
unfolding renewed renewed_with lags_at
event_now memory l e = refl

-- an event of squares and triangle, at which neither noise nor DMC is due, is the next one
pub voices_next : (memory : List ℕ) (s : State) (end base from records : ℕ) (before words : List ℕ) (l : Lags) (n : ℕ)
    → Worked memory s end base from records before words l n → l.soon < l.noise.next → l.soon < l.dmc.next → l.next ≡ l.soon
voices_next memory s end base from records before words l n w p q = next_soon memory s l w.standing.lagging p q

voices_event : (memory : List ℕ) (bytes : Bytes memory) (s : State) (end base from records : ℕ) (before words : List ℕ) (l : Lags) (n : ℕ)
    → Worked memory s end base from records before words l n → l.soon ≤ end → l.soon < l.noise.next → l.soon < l.dmc.next
    → n < room_of words → (after : Lags) → after ≡ voices_renewed l l.soon → (now : List ℕ) (m : ℕ)
    → m ≡ pick (eqb after.level l.level) n (n + 1)
    → now ≡ pick (eqb after.level l.level) words (stored words n (base + l.soon) after.level)
    → Worked memory s end base from records before now after m
voices_event memory bytes s end base from records before words l n w h p q room after y now m c d =
    let z = voices_next memory s end base from records before words l n w p q in
    worked_event memory bytes s end base from records before words l n w (omega arith) room after
    (y ∙ voices_renewed_lem memory l l.soon refl p q ∙ ap (renewed memory l) (sym z)) now m c
    (d ∙ ap (λ (k : ℕ). pick (eqb after.level l.level) words (stored words n (base + k) after.level)) (sym z))

-- squares and triangle by themselves, before any event of theirs
pub voices_none : (memory : List ℕ) (s : State) (end base : ℕ) (words : List ℕ) (first : Lags) (n : ℕ) → Standing memory s end base words first n
    → Worked memory s end base first.now n words words (lags_with first (voices_of first) first.level) n
voices_none memory s end base words first n g =
    rw (voices_start first g.lagging.next) (worked_none memory s end base words first n g)

module _ (memory : List ℕ) (bytes : Bytes memory) (s : State) (end base from records : ℕ) (before words : List ℕ) (first : Lags) (v : Voices) (level n : ℕ)
    (w : Worked memory s end base from records before words (lags_with first v level) n) where
  -- their next event is past now
  pub voices_past : v.now < v.next
  unfolding lags_with
  voices_past = soon_past memory s (lags_with first v level) w.standing.lagging

  -- ONE EVENT OF THEIRS, with its record where the level is another
  pub voices_worked : Sound v → v.next ≤ end → v.next < first.noise.next → v.next < first.dmc.next → n < room_of words
      → (each : Bool) (after : Voices) → after ≡ voices_after v each v.next → (lv : ℕ) → lv ≡ voices_level after (others_weight first.noise.out first.dmc.out)
      → (now : List ℕ) (m : ℕ) → m ≡ pick (eqb lv level) n (n + 1) → now ≡ pick (eqb lv level) words (stored words n (base + v.next) lv)
      → Worked memory s end base from records before now (lags_with first after lv) m
  unfolding lags_with
  voices_worked g h p q room each after y lv z now m c d =
      voices_event memory bytes s end base from records before words (lags_with first v level) n w h p q room (lags_with first after lv)
      (rw (z, y) (event_of_voices v g each first level)) now m c d

-- an event of theirs is at the clock that was their next
pub voices_now : (v : Voices) (each : Bool) (e : ℕ) → (voices_after v each e).now ≡ e
unfolding voices_after voices_to
voices_now v each e = refl

pub voices_sound : (v : Voices) → Sound v → (each : Bool) (after : Voices) → after ≡ voices_after v each v.next → Sound after
voices_sound v s each after q = rw q (sound_after v s each)
