-- Clocks of a wait: k clocks are k turns, and nothing refuses the place behind them. Assumes nothing.
use Prim.Native.Nat.{ℕ, zero, suc, ◌+◌, ◌-◌, ◌≤◌, ◌<◌}
use mathlib.Core.Path.{◌≡◌, refl, sym, ap, ap₂, subst, ◌∙◌}
use mathlib.Core.Bool.{true}
use mathlib.Core.List.{List, [], ◌++◌, append_assoc, append-nil}
use native.Mathlib.Nat.{zero-add}
use native.Mathlib.Omega.{arith}
use lib.ListN.{get_or}
use Rattle.arith.specs.Iterate.{iterate}
use Rattle.arith.proofs.IterateLaws.{iterate_keeps, iterate_add}
use Rattle.reading.specs.Saying.{says}
use Rattle.chip.specs.Clock.{chip_clock}
use Rattle.chip.specs.Range.{in_range, Bytes}
use Rattle.chip.specs.declared.State.{State}
use Rattle.chip.proofs.MachineLaws.{Alike, clock_machine}
use Rattle.chip.proofs.RangeLaws.{StateRanged, state_in_lem, state_back, clock_kept}
use Rattle.run_levels.specs.Levels.{clocks_levels}
use Rattle.run_levels.proofs.LevelLaws.{levels_add, levels_length, levels_most}
use Rattle.wav_sample.specs.declared.Sampler.{Sampler}
use Rattle.wav_sample.specs.Sampler.{sampler_of, sampled_from, sampler_after, in_order}
use Rattle.wav_sample.proofs.FeedLaws.{sampled_join, after_join, after_clock}
use Rattle.wav_sample.proofs.OrderLaws.{after_in_order}
use Rattle.play_walk.specs.Walk.{moment_of}
use Rattle.play_samples.specs.declared.Place.{Place}
use Rattle.play_samples.specs.Stepping.{Go, place_of, sampler_at, clocks_step, refusal_of, heard}
use Rattle.wav_rules.specs.Turns.{turn_of, Sounds, here, quietly, sounding}
use Rattle.wav_rules.proofs.TurnLaws.{Fine, none_fine, fine_none, turn_clock}

-- WHAT CLOCKS KEEP
module _ (memory : List ℕ) (n : ℕ) (s : State) where
  pub clocks_machine : (iterate (chip_clock memory) n s).pal ≡ s.pal
  clocks_machine = (iterate_keeps (Alike s) (chip_clock memory) (λ x h. record { pal = (clock_machine memory x).pal ∙ h.pal }) n s (record { pal = refl })).pal

  pub clocks_ranged : Bytes memory → in_range s ≡ true → in_range (iterate (chip_clock memory) n s) ≡ true
  clocks_ranged bytes h = state_back _ (iterate_keeps StateRanged (chip_clock memory) (clock_kept memory bytes) n s (state_in_lem s h))

-- CLOCKS JOINED
module _ (memory : List ℕ) (rate : ℕ) where
  -- the samples said by k clocks
  abbrev pub clocks_samples : ℕ → Place → List ℕ
  clocks_samples k p = sampled_from p.moment.state.pal rate (sampler_at p) (clocks_levels memory k p.moment.state)

  pub clocks_heard : (k : ℕ) (p : Place) → heard (clocks_step memory rate k p).said ≡ clocks_samples k p
  unfolding clocks_step heard
  clocks_heard k p = refl

  pub clocks_said : (k : ℕ) (p : Place) → (clocks_step memory rate k p).said ≡ says (clocks_samples k p)
  unfolding clocks_step
  clocks_said k p = refl

  -- the place behind them
  module _ (k : ℕ) (p : Place) where
    pub clocks_cursor : (clocks_step memory rate k p).state.moment.cursor ≡ p.moment.cursor
    unfolding clocks_step
    clocks_cursor = refl

    pub clocks_state : (clocks_step memory rate k p).state.moment.state ≡ iterate (chip_clock memory) k p.moment.state
    unfolding clocks_step
    clocks_state = refl

    pub clocks_time : (clocks_step memory rate k p).state.moment.time ≡ p.moment.time + k
    unfolding clocks_step
    clocks_time = refl

    pub clocks_left : (clocks_step memory rate k p).state.left ≡ p.left - k
    unfolding clocks_step
    clocks_left = refl

    pub clocks_same : (clocks_step memory rate k p).state.moment.state.pal ≡ p.moment.state.pal
    unfolding clocks_step
    clocks_same = clocks_machine memory k p.moment.state

  -- the sampler behind them
  pub clocks_sampler : (k : ℕ) (p : Place)
      → sampler_at (clocks_step memory rate k p).state ≡ sampler_after p.moment.state.pal rate (sampler_at p) (clocks_levels memory k p.moment.state)
  unfolding clocks_step
  clocks_sampler k p =
      let s = p.moment.state in
      let a = sampler_after s.pal rate (sampler_at p) (clocks_levels memory k s) in
      let c = after_clock s.pal rate (clocks_levels memory k s) (sampler_at p) in
      let e : p.moment.time + k ≡ a.clock = omega (arith, c, levels_length memory k s) in
      ap (λ (t : ℕ). sampler_of t a.sample a.sum) e

  -- no clock
  pub clocks_none : (p : Place) → (clocks_step memory rate 0 p).state ≡ p
  unfolding clocks_step clocks_levels iterate sampler_after
  clocks_none p =
      let t : p.moment.time + 0 ≡ p.moment.time = omega arith in
      let n : p.left - 0 ≡ p.left = omega arith in
      ap₂ (λ (x y : ℕ). place_of (moment_of p.moment.cursor p.moment.state x) y p.sample p.sum) t n

  -- a clocks, then b
  module _ (a b : ℕ) (p : Place) where
    abbrev behind : Place
    behind = (clocks_step memory rate a p).state

    levels : clocks_levels memory (a + b) p.moment.state ≡ clocks_levels memory a p.moment.state ++ clocks_levels memory b behind.moment.state
    unfolding clocks_step
    levels = levels_add memory a b p.moment.state

    pub samples_join : clocks_samples (a + b) p ≡ clocks_samples a p ++ clocks_samples b behind
    samples_join =
        rw (levels, clocks_same a p, clocks_sampler a p)
        (sampled_join p.moment.state.pal rate (clocks_levels memory a p.moment.state) (clocks_levels memory b behind.moment.state) (sampler_at p))

    sampler : sampler_at (clocks_step memory rate (a + b) p).state ≡ sampler_at (clocks_step memory rate b behind).state
    sampler =
        rw (clocks_sampler (a + b) p, clocks_sampler b behind, levels, clocks_same a p, clocks_sampler a p)
        (after_join p.moment.state.pal rate (clocks_levels memory a p.moment.state) (clocks_levels memory b behind.moment.state) (sampler_at p))

    moved : (clocks_step memory rate (a + b) p).state.moment ≡ (clocks_step memory rate b behind).state.moment
    unfolding clocks_step
    moved =
        let t : p.moment.time + (a + b) ≡ p.moment.time + a + b = omega arith in
        ap₂ (λ (x : State) (y : ℕ). moment_of p.moment.cursor x y) (iterate_add (chip_clock memory) a b p.moment.state) t

    left : (clocks_step memory rate (a + b) p).state.left ≡ (clocks_step memory rate b behind).state.left
    unfolding clocks_step
    left = omega arith

    pub clocks_join : (clocks_step memory rate (a + b) p).state ≡ (clocks_step memory rate b behind).state
    clocks_join = same moved left (ap (λ (x : Sampler). x.sample) sampler) (ap (λ (x : Sampler). x.sum) sampler)
      where
        same : {q r : Place} → q.moment ≡ r.moment → q.left ≡ r.left → q.sample ≡ r.sample → q.sum ≡ r.sum → q ≡ r
        same e f g h = λ i. place_of (e i) (f i) (g i) (h i)

-- NOTHING REFUSES THE PLACE BEHIND CLOCKS
module _ (memory : List ℕ) (rate : ℕ) (bytes : Bytes memory) where
  pub clocks_order : (k : ℕ) (p : Place) → k ≤ p.left → Fine memory rate p
      → in_order p.moment.state.pal rate (sampler_at (clocks_step memory rate k p).state) ≡ true
  clocks_order k p few f =
      let s = p.moment.state in
      let l = clocks_levels memory k s in
      let n = levels_length memory k s in
      let low : (i : ℕ) → get_or l i 0 ≤ 65535 = λ i. (let m = levels_most memory k s i in omega (arith, m)) in
      rw (clocks_sampler memory rate k p) (after_in_order s.pal rate f.right l (sampler_at p) low (omega (arith, n, few, f.early)) f.order)

  clocks_fine : (k : ℕ) (p : Place) → k ≤ p.left → Fine memory rate p
      → in_order p.moment.state.pal rate (sampler_at (clocks_step memory rate k p).state) ≡ true → Fine memory rate (clocks_step memory rate k p).state
  unfolding clocks_step
  clocks_fine k p few f o =
      record {
        long = f.long;
        ranged = clocks_ranged memory k p.moment.state bytes f.ranged;
        few = omega (arith, f.few);
        early = omega (arith, few, f.early);
        right = f.right;
        order = rw (clocks_machine memory k p.moment.state) o;
      }

  pub clocks_kept : (k : ℕ) (p : Place) → k ≤ p.left → refusal_of memory rate p ≡ 0 → refusal_of memory rate (clocks_step memory rate k p).state ≡ 0
  clocks_kept k p few none =
      let f = none_fine memory rate p none in
      fine_none memory rate (clocks_step memory rate k p).state (clocks_fine k p few f (clocks_order k p few f))

-- K CLOCKS BY ONE CLOCK: what a turn that sounds carries back, k clocks carry back
module _ (log memory : List ℕ) (rate : ℕ) (bytes : Bytes memory) where
  module _ (P : Place → List ℕ → ℕ → Type 0)
      (each : (p : Place) (m l : List ℕ) (n : ℕ) → (turn_of log memory rate p).said ≡ says m → P (turn_of log memory rate p).state l n → P p (m ++ l) (suc n)) where
    back_none : (p : Place) (l : List ℕ) (n : ℕ) → P (clocks_step memory rate 0 p).state l n → P p (clocks_samples memory rate 0 p ++ l) (0 + n)
    unfolding clocks_levels sampled_from
    back_none p l n h = rw (zero-add n) (rw (clocks_none memory rate p) at h)

    -- the first
    back_first : (p : Place) (l : List ℕ) (n : ℕ) → refusal_of memory rate p ≡ 0 → 0 < p.left → P (clocks_step memory rate 1 p).state l n
        → P p (clocks_samples memory rate 1 p ++ l) (suc n)
    back_first p l n none some h =
        let e = turn_clock log memory rate p none some in
        each p (clocks_samples memory rate 1 p) l n (ap (λ (g : Go). g.said) e ∙ clocks_said memory rate 1 p)
        (subst (λ (g : Go). P g.state l n) (sym e) h)

    pub clocks_back : (k : ℕ) (p : Place) (l : List ℕ) (n : ℕ) → k ≤ p.left → refusal_of memory rate p ≡ 0 → P (clocks_step memory rate k p).state l n
        → P p (clocks_samples memory rate k p ++ l) (k + n)
    clocks_back zero p l n few none h = back_none p l n h
    clocks_back (suc k) p l n few none h =
        let q = (clocks_step memory rate 1 p).state in
        let one : suc k ≡ 1 + k = omega arith in
        let count : suc (k + n) ≡ suc k + n = omega arith in
        let there : P (clocks_step memory rate k q).state l n =
        subst (λ (x : Place). P x l n) (ap (λ (i : ℕ). (clocks_step memory rate i p).state) one ∙ clocks_join memory rate 1 k p) h in
        let r = clocks_back k q l n (omega (arith, few, clocks_left memory rate 1 p)) (clocks_kept memory rate bytes 1 p (omega (arith, few)) none) there in
        let samples : clocks_samples memory rate 1 p ++ (clocks_samples memory rate k q ++ l) ≡ clocks_samples memory rate (suc k) p ++ l =
        sym (append_assoc (clocks_samples memory rate 1 p) (clocks_samples memory rate k q) l)
        ∙ ap (λ (x : List ℕ). x ++ l) (sym (samples_join memory rate 1 k p) ∙ ap (λ (i : ℕ). clocks_samples memory rate i p) (sym one)) in
        subst (λ (x : List ℕ). P p x (suc k + n)) samples
        (subst (λ (i : ℕ). P p (clocks_samples memory rate 1 p ++ (clocks_samples memory rate k q ++ l)) i) count
        (back_first p (clocks_samples memory rate k q ++ l) (k + n) none (omega (arith, few)) r))

  -- K CLOCKS OF A WAIT ARE K TURNS
  pub clocks_turns : (k : ℕ) (p : Place) → k ≤ p.left → refusal_of memory rate p ≡ 0
      → Sounds (turn_of log memory rate) p (heard (clocks_step memory rate k p).said) k (clocks_step memory rate k p).state
  clocks_turns k p few none =
      let q = (clocks_step memory rate k p).state in
      let n : k + 0 ≡ k = omega arith in
      let r = clocks_back (λ x l i. Sounds (turn_of log memory rate) x l i q) (λ x m l i e h. sounding e h) k p [] 0 few none here in
      rw (clocks_heard memory rate k p)
      (subst (λ (i : ℕ). Sounds (turn_of log memory rate) p (clocks_samples memory rate k p) i q) n
      (subst (λ (l : List ℕ). Sounds (turn_of log memory rate) p l (k + 0) q) (append-nil (clocks_samples memory rate k p)) r))

-- TURNS JOINED
pub sounds_join : {turn : Place → Go} {p q r : Place} {l m : List ℕ} {n k : ℕ} → Sounds turn p l n q → Sounds turn q m k r → Sounds turn p (l ++ m) (n + k) r
sounds_join {m = m} {k = k} here t = rw (zero-add k) t
sounds_join {turn = turn} {p = p} {r = r} {l = l} {m = m} {k = k} (quietly {n = n} e s) t =
    let i : suc (n + k) ≡ suc n + k = omega arith in
    subst (λ (j : ℕ). Sounds turn p (l ++ m) j r) i (quietly e (sounds_join s t))
sounds_join {turn = turn} {p = p} {r = r} {m = m} {k = k} (sounding {l = l} {m = x} {n = n} e s) t =
    let i : suc (n + k) ≡ suc n + k = omega arith in
    subst (λ (j : ℕ). Sounds turn p ((x ++ l) ++ m) j r) i (rw (append_assoc x l m) (sounding e (sounds_join s t)))
