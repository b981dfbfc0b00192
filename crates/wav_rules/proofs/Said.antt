-- THE TURNS FROM A LOG'S BEGINNING SAY ITS SAMPLES, and then the end. Assumes nothing.
use Prim.Native.Nat.{ℕ, ◌+◌, ◌*◌, ◌/◌, ◌≤◌, ◌<◌}
use mathlib.Core.Path.{◌≡◌, refl, sym, ap, subst, ◌∙◌}
use mathlib.Core.Bool.{Bool, true}
use mathlib.Core.List.{List, [], ◌∷◌, ◌++◌, append-nil}
use native.Mathlib.Nat.{div-lt_iff_lt-mul}
use native.Mathlib.Omega.{arith}
use borrow.Author.Tests.{le-leb}
use lib.ListN.{length}
use Rattle.arith.specs.Iterate.{iterate}
use Rattle.bus.specs.declared.Access as busAccess
use Rattle.clock_rate.specs.Rate.{clock_rate}
use Rattle.reading.specs.Saying.{Said, over, on, refused, Gives, ends, goes, gives}
use Rattle.log_line.specs.declared.Act.{Act}
use Rattle.log_line.specs.declared.Act.TheVariants.{Wait, Access}
use Rattle.recording.specs.Whole.{machine_of}
use Rattle.log_rules.specs.Tree.{acts, clocks, act_clocks}
use Rattle.recording.specs.Whole.{tree_of, check_of}
use Rattle.log_passing.proofs.ActLaws.{clocks_in, clocks_listed}
use Rattle.recording.proofs.Passing.{clear}
use Rattle.recording_cursor.specs.declared.Cursor.{Cursor}
use Rattle.recording_cursor.specs.Stepping as cursor
use Rattle.recording_cursor.proofs.Whole.{cursor_gives}
use Rattle.chip.specs.Clock.{chip_clock}
use Rattle.chip.specs.Range.{power_on, Bytes}
use Rattle.chip.proofs.RangeLaws.{power_on_in}
use Rattle.chip_access.specs.Access.{access_state}
use Rattle.chip_access.proofs.AccessLaws.{access_machine}
use Rattle.run_levels.specs.Levels.{clocks_levels}
use Rattle.wav_sample.specs.Samples.{rate_right, clocks_before}
use Rattle.wav_sample.specs.Sampler.{sampled_from}
use Rattle.wav_sample.proofs.ClockLaws.{right_low, clock_rate_top}
use Rattle.wav_sample.proofs.FeedLaws.{sampled_join}
use Rattle.wav_sample.proofs.OrderLaws.{ordered, start_in_order}
use Rattle.wav_sample.proofs.Given.{given}
use Rattle.play_walk.specs.Walk.{moment_of}
use Rattle.play_samples.specs.declared.Place.{Place}
use Rattle.play_samples.specs.Stepping.{go, place_of, place_start, sampler_at, clocks_step, refusal_of}
use Rattle.wav_rules.specs.Sound.{levels_from, log_samples}
use Rattle.wav_rules.specs.Turns.{turn_of, Sounds}
use Rattle.wav_rules.proofs.TurnLaws.{Fine, none_fine, fine_none, turn_over, turn_on, turn_wait, turn_access}
use Rattle.wav_rules.proofs.ClocksLaws.{clocks_samples, clocks_cursor, clocks_state, clocks_time, clocks_left, clocks_same, clocks_sampler, clocks_kept, clocks_back}
use Rattle.wav_rules.proofs.LineLaws.{line_behind}
use Rattle.wav_rules.proofs.Telling as telling
use Rattle.wav_rules.proofs.Telling.{Tells, by_on, by_over, Left, left, turn_fine, never_refused, over_none}

module _ (log memory : List ℕ) (rate : ℕ) (bytes : Bytes memory) where
  -- the samples of the acts l from a place on
  abbrev samples_at : Place → List Act → List ℕ
  samples_at p l = sampled_from p.moment.state.pal rate (sampler_at p) (levels_from memory l p.moment.state)

  -- the place behind a line
  line_none : (p : Place) → refusal_of memory rate p ≡ 0 → p.left ≡ 0 → (w : Said (List ℕ)) (q : Place) → turn_of log memory rate p ≡ go w q
      → q.moment.time + q.left ≤ 2000000000 → refusal_of memory rate q ≡ 0
  line_none p none line w q e early =
      let r = rw e at (line_behind log memory rate p none line) in
      r.refusal ∙ rw (le-leb (q.moment.time + q.left) 2000000000 early) refl

  -- A WAIT AND THE ACTS BEHIND IT
  wait_samples : (n : ℕ) (p : Place) (l : List Act)
      → clocks_samples memory rate n p ++ samples_at (clocks_step memory rate n p).state l ≡ samples_at p (Wait n ∷ l)
  unfolding levels_from
  wait_samples n p l =
      let s = p.moment.state in
      let far = levels_from memory l (iterate (chip_clock memory) n s) in
      rw (clocks_same memory rate n p, clocks_sampler memory rate n p, clocks_state memory rate n p)
      (sym (sampled_join s.pal rate (clocks_levels memory n s) far (sampler_at p)))

  wait_told : (n : ℕ) (p : Place) (l : List Act) (f c : ℕ) → n ≤ p.left → refusal_of memory rate p ≡ 0
      → Tells (turn_of log memory rate) (clocks_step memory rate n p).state (samples_at (clocks_step memory rate n p).state l) f c
      → Tells (turn_of log memory rate) p (samples_at p (Wait n ∷ l)) f (n + c)
  wait_told n p l f c few none t =
      subst (λ (x : List ℕ). Tells (turn_of log memory rate) p x f (n + c)) (wait_samples n p l)
      (clocks_back log memory rate bytes (λ x m i. Tells (turn_of log memory rate) x m f i) (λ x m k i e h. telling.gives e h) n p
      (samples_at (clocks_step memory rate n p).state l) c few none t)

  access_samples : (x : busAccess.Access) (c : Cursor) (p : Place) (l : List Act)
      → samples_at (place_of (moment_of c (access_state x p.moment.state) p.moment.time) 0 p.sample p.sum) l ≡ samples_at p (Access x ∷ l)
  unfolding levels_from
  access_samples x c p l = rw (access_machine x p.moment.state).pal refl

  -- THE ACTS
  acts_told : {c : Cursor} {l : List Act} {f : ℕ} → Gives (cursor.step_of log) c l f → (p : Place) → p.moment.cursor ≡ c → p.left ≡ 0
      → refusal_of memory rate p ≡ 0 → p.moment.time + clocks_in l ≤ 2000000000 → Tells (turn_of log memory rate) p (samples_at p l) f (clocks_in l)
  unfolding clocks_in act_clocks levels_from sampled_from
  acts_told (ends f e h) p at line none early = by_over (turn_of log memory rate) f (turn_over log memory rate p none line (rw at e)) h
  acts_told {l = l} (goes f e g h) p at line none early =
      let i = turn_on log memory rate p none line (rw at e) in
      by_on (turn_of log memory rate) f i
      (acts_told g (place_of (moment_of (cursor.step_of log p.moment.cursor).state p.moment.state p.moment.time) 0 p.sample p.sum)
      (rw at refl) refl (line_none p none line on _ i (omega arith)) early) h
  acts_told (gives {a = Wait n} {l = l} {k = k} f e g h) p at line none early =
      let i = turn_wait log memory rate p none line n (rw at e) in
      let q = place_of (moment_of (cursor.step_of log p.moment.cursor).state p.moment.state p.moment.time) n p.sample p.sum in
      let free = line_none p none line on q i (omega arith) in
      let r = (clocks_step memory rate n q).state in
      by_on (turn_of log memory rate) f i
      (wait_told n q l k (clocks_in l) (omega arith) free
      (acts_told g r (clocks_cursor memory rate n q ∙ rw at refl) (omega (arith, clocks_left memory rate n q))
      (clocks_kept memory rate bytes n q (omega arith) free) (omega (arith, early, clocks_time memory rate n q)))) h
  acts_told (gives {a = Access x} {l = l} f e g h) p at line none early =
      let i = turn_access log memory rate p none line x (rw at e) in
      let c = (cursor.step_of log p.moment.cursor).state in
      let q = place_of (moment_of c (access_state x p.moment.state) p.moment.time) 0 p.sample p.sum in
      let z : 0 + clocks_in l ≡ clocks_in l = omega arith in
      rw (z, ← access_samples x c p l)
      (by_on (turn_of log memory rate) f i (acts_told g q (rw at refl) refl (line_none p none line on q i (omega arith)) (omega arith)) h)

-- a sample has at most 224 clocks
pub sample_short : (pal : Bool) (rate : ℕ) → rate_right rate ≡ true → (n : ℕ) → clocks_before pal rate (n + 1) ≤ clocks_before pal rate n + 224
unfolding clocks_before
sample_short pal rate right n =
    let low = right_low rate right in
    let top = clock_rate_top pal in
    let q : ℕ = n * clock_rate pal / rate in
    let here : n * clock_rate pal < (q + 1) * rate = (div-lt_iff_lt-mul {k = rate} {x = n * clock_rate pal} {y = q + 1} (omega arith)).0 (omega arith) in
    let there : (n + 1) * clock_rate pal / rate < q + 225 =
    (div-lt_iff_lt-mul {k = rate} {x = (n + 1) * clock_rate pal} {y = q + 225} (omega arith)).1 (omega arith) in
    omega arith

module _ (log memory : List ℕ) (rate : ℕ) (long : length memory ≡ 32768) (bytes : Bytes memory) (right : rate_right rate ≡ true) (h : (check_of log).number ≡ 0) where
  start_fine : Fine memory rate (place_start log)
  start_fine =
      record {
        long = long;
        ranged = power_on_in (machine_of log);
        few = omega arith;
        early = omega arith;
        right = right;
        order = start_in_order (power_on (machine_of log)).pal rate right;
      }

  whole : samples_at log memory rate bytes (place_start log) (acts (tree_of log)) ≡ log_samples log memory rate
  unfolding log_samples power_on
  whole = given (machine_of log) rate right (levels_from memory (acts (tree_of log)) (power_on (machine_of log)))

  -- THE SAMPLES, within 2,000,002 lines and the log's clocks
  pub samples_told : Tells (turn_of log memory rate) (place_start log) (log_samples log memory rate) 2000002 (clocks (tree_of log))
  samples_told =
      let c = (clear log h).in_clocks in
      let d = clocks_listed (tree_of log) in
      rw (← d, ← whole)
      (acts_told log memory rate bytes (cursor_gives log h) (place_start log) refl refl (fine_none memory rate (place_start log) start_fine) (omega (arith, c, d)))

  -- FROM THE BEGINNING ON
  module _ {l : List ℕ} {n : ℕ} {q : Place} (s : Sounds (turn_of log memory rate) (place_start log) l n q) where
    still : Left log memory rate (place_start log) q (log_samples log memory rate) l n 2000002 (clocks (tree_of log))
    still = left log memory rate s samples_told

    -- what was said is a beginning of the samples, and all of them where all is over
    pub said_first : (rest : List ℕ) × (log_samples log memory rate ≡ l ++ rest)
    said_first = (still.rest, still.joined)

    pub said_all : (turn_of log memory rate q).said ≡ over → l ≡ log_samples log memory rate
    said_all e =
        sym (still.joined ∙ (ap (λ (x : List ℕ). l ++ x) (over_none log memory rate still.told e) ∙ append-nil l))

    -- no turn is refused
    pub said_on : (k p : ℕ) → (turn_of log memory rate q).said ≡ refused k p → ⊥
    said_on = never_refused log memory rate still.told

    pub said_fine : refusal_of memory rate q ≡ 0
    said_fine = turn_fine log memory rate q said_on

    -- the turns are no more than lines and clocks
    pub said_few : n ≤ 2000002 + clocks (tree_of log)
    said_few = omega (arith, still.few)

    -- turns in a row that say no sample
    pub quiet_few : {m : ℕ} {r : Place} → Sounds (turn_of log memory rate) q [] m r → m < 4000010
    quiet_few {m = m} {r = r} t =
        let i = left log memory rate t still.told in
        let pal = q.moment.state.pal in
        let begun = (ordered pal rate (sampler_at q) (none_fine memory rate q said_fine).order).begun in
        let free = turn_fine log memory rate r (never_refused log memory rate i.told) in
        let order = rw i.machine at (none_fine memory rate r free).order in
        let same : r.sample ≡ q.sample = omega (arith, i.sample) in
        let under = rw same at (ordered pal rate (sampler_at r) order).under in
        omega (arith, i.few, i.time, still.less, begun, under, sample_short pal rate right q.sample)
