-- The turns to their end, and what is left of them behind some. Assumes nothing.
use Prim.Native.Nat.{ℕ, suc, ◌+◌, ◌≤◌, ◌<◌}
use mathlib.Core.Path.{◌≡◌, refl, sym, ap, ◌∙◌}
use mathlib.Core.Bool.{Bool, true, false}
use mathlib.Core.List.{List, [], ◌∷◌, ◌++◌, append_assoc, append-nil}
use native.Mathlib.Omega.{arith}
use lib.ListN.{length, length-append}
use Rattle.arith.specs.Pick.{pick}
use Rattle.reading.specs.Saying.{over, on, says, refused}
use Rattle.chip.specs.Clock.{chip_clock}
use Rattle.chip.specs.Level.{state_level}
use Rattle.run_levels.specs.Levels.{clocks_levels}
use Rattle.wav_sample.specs.declared.Sampler.{Sampler}
use Rattle.wav_sample.specs.Sampler.{sampler_of, whole_next, given_by, fed, sampled_from, sampler_after}
use Rattle.play_walk.specs.Walk.{walk_step}
use Rattle.play_walk.specs.declared.Moment.{Moment}
use Rattle.play_walk.specs.declared.Met.{Met}
use Rattle.play_samples.specs.declared.Place.{Place}
use Rattle.play_samples.specs.Stepping.{Go, go, sampler_at, clocks_step, met_step, refusal_of}
use Rattle.wav_rules.specs.Turns.{turn_of, Sounds, here, quietly, sounding}
use Rattle.wav_rules.proofs.TurnLaws.{Taken, halted, line, clock, taken}
use Rattle.wav_rules.proofs.ClocksLaws.{clocks_samples, clocks_said, clocks_time, clocks_same}
use Rattle.wav_rules.proofs.LineLaws.{line_behind}

-- from p the turns say lists of samples that are l, joined, and then that all is over: within so many lines of the log and as many clocks
pub data Tells (turn : Place → Go) : Place → List ℕ → ℕ → ℕ → Type 0 where
  ends : {p : Place} (f : ℕ) → (turn p).said ≡ over → 0 < f → Tells turn p [] f 0
  goes : {p : Place} {l : List ℕ} {k c : ℕ} (f : ℕ) → (turn p).said ≡ on → Tells turn (turn p).state l k c → k < f → Tells turn p l f c
  gives : {p : Place} {m l : List ℕ} {f c : ℕ} → (turn p).said ≡ says m → Tells turn (turn p).state l f c → Tells turn p (m ++ l) f (suc c)

-- by what a turn is
module _ (turn : Place → Go) where
  pub by_on : {p q : Place} {l : List ℕ} {k c : ℕ} (f : ℕ) → turn p ≡ go on q → Tells turn q l k c → k < f → Tells turn p l f c
  by_on {p = p} {l = l} {k = k} {c = c} f e t h =
      let t' : Tells turn (turn p).state l k c = rw e t in
      goes f (ap (λ (g : Go). g.said) e) t' h

  pub by_over : {p q : Place} (f : ℕ) → turn p ≡ go over q → 0 < f → Tells turn p [] f 0
  by_over f e h = ends f (ap (λ (g : Go). g.said) e) h

-- WHAT A TURN DOES: a line leaves the clock and the sample under way, and one that sounds is a clock with its samples
pub record Went (p q : Place) (clocks samples : ℕ) : Type 0 where
  pub time : q.moment.time ≡ p.moment.time + clocks
  pub sample : q.sample ≡ p.sample + samples
  pub machine : q.moment.state.pal ≡ p.moment.state.pal

met_quiet : (p : Place) (x : Met) (m : Moment) (l : List ℕ) → (met_step p x m).said ≡ says l → ⊥
unfolding met_step
met_quiet p Met.Moved m l e = let z : ◌≡◌ {A = ℕ} 0 1 = cc in omega arith
met_quiet p (Met.Access x b a) m l e = let z : ◌≡◌ {A = ℕ} 0 1 = cc in omega arith
met_quiet p (Met.Wait n) m l e = let z : ◌≡◌ {A = ℕ} 0 1 = cc in omega arith
met_quiet p Met.End m l e = let z : ◌≡◌ {A = ℕ} 0 1 = cc in omega arith
met_quiet p (Met.Refused k q) m l e = let z : ◌≡◌ {A = ℕ} 0 1 = cc in omega arith

-- one level makes as many samples whole as it gives
fed_sample : (pal : Bool) (rate v : ℕ) (a : Sampler) → (fed pal rate v a).sample ≡ a.sample + length (given_by pal rate v a)
unfolding fed given_by
fed_sample pal rate v a = by (whole_next pal rate a) _
  where
    by : (t : Bool) (x : ℕ)
        → (pick t (sampler_of (a.clock + 1) (a.sample + 1) 0) (sampler_of (a.clock + 1) a.sample (a.sum + v))).sample
        ≡ a.sample + length (pick t (x ∷ []) [])
    by true x = refl
    by false x = omega arith

module _ (log memory : List ℕ) (rate : ℕ) where
  clock_sample : (p : Place) → (clocks_step memory rate 1 p).state.sample ≡ p.sample + length (clocks_samples memory rate 1 p)
  unfolding clocks_step clocks_levels sampled_from sampler_after
  clock_sample p =
      let s = p.moment.state in
      let v = state_level (chip_clock memory s) in
      fed_sample s.pal rate v (sampler_at p) ∙ ap (λ (l : List ℕ). p.sample + length l) (sym (append-nil (given_by s.pal rate v (sampler_at p))))

  pub turn_quiet : (p : Place) → (turn_of log memory rate p).said ≡ on → Went p (turn_of log memory rate p).state 0 0
  turn_quiet p e = by (taken log memory rate p)
    where
      by : Taken log memory rate p → Went p (turn_of log memory rate p).state 0 0
      by (halted h f) = let z : ◌≡◌ {A = ℕ} 0 1 = cc (ap (λ (g : Go). g.said) f) in absurd (omega arith)
      by (line none h f) =
          let b = line_behind log memory rate p none h in
          record { time = omega (arith, b.time); sample = omega (arith, b.sample); machine = b.machine }
      by (clock none h f) = let z : ◌≡◌ {A = ℕ} 0 1 = cc (ap (λ (g : Go). g.said) f, clocks_said memory rate 1 p) in absurd (omega arith)

  pub turn_sounds : (p : Place) (m : List ℕ) → (turn_of log memory rate p).said ≡ says m → Went p (turn_of log memory rate p).state 1 (length m)
  turn_sounds p m e = by (taken log memory rate p)
    where
      by : Taken log memory rate p → Went p (turn_of log memory rate p).state 1 (length m)
      by (halted h f) = let z : ◌≡◌ {A = ℕ} 0 1 = cc (ap (λ (g : Go). g.said) f) in absurd (omega arith)
      by (line none h f) =
          absurd (met_quiet p (walk_step log p.moment).met (walk_step log p.moment).moment m (sym (ap (λ (g : Go). g.said) f) ∙ e))
      by (clock none h f) =
          let i : m ≡ clocks_samples memory rate 1 p = cc (ap (λ (g : Go). g.said) f, clocks_said memory rate 1 p) in
          rw (f, i) (record { time = clocks_time memory rate 1 p; sample = clock_sample p; machine = clocks_same memory rate 1 p })

  -- a place whose turn is not refused
  pub turn_fine : (p : Place) → ((k q : ℕ) → (turn_of log memory rate p).said ≡ refused k q → ⊥) → refusal_of memory rate p ≡ 0
  turn_fine p h = by (taken log memory rate p)
    where
      by : Taken log memory rate p → refusal_of memory rate p ≡ 0
      by (halted i f) = absurd (h (refusal_of memory rate p) 0 (ap (λ (g : Go). g.said) f))
      by (line none i f) = none
      by (clock none i f) = none

  abbrev turn : Place → Go
  turn = turn_of log memory rate

  -- WHAT IS LEFT behind n turns that say l
  pub record Left (p q : Place) (whole l : List ℕ) (n lines clocks : ℕ) : Type 0 where
    pub rest : List ℕ
    pub others : ℕ
    pub later : ℕ
    pub told : Tells turn q rest others later
    pub joined : whole ≡ l ++ rest
    pub few : n + (others + later) ≤ lines + clocks
    pub less : others ≤ lines
    pub time : q.moment.time + later ≡ p.moment.time + clocks
    pub sample : q.sample ≡ p.sample + length l
    pub machine : q.moment.state.pal ≡ p.moment.state.pal

  pub left : {p q : Place} {whole l : List ℕ} {n f c : ℕ} → Sounds turn p l n q → Tells turn p whole f c → Left p q whole l n f c
  left {whole = whole} {f = f} {c = c} here t =
      record {
        rest = whole;
        others = f;
        later = c;
        told = t;
        joined = refl;
        few = omega arith;
        less = omega arith;
        time = refl;
        sample = omega arith;
        machine = refl;
      }
  left (quietly e s) (ends f g h) = let z : ◌≡◌ {A = ℕ} 0 1 = cc in absurd (omega arith)
  left {p = p} (quietly e s) (goes f g t h) =
      let r = left s t in
      let w = turn_quiet p e in
      record {
        rest = r.rest;
        others = r.others;
        later = r.later;
        told = r.told;
        joined = r.joined;
        few = omega (arith, r.few);
        less = omega (arith, r.less);
        time = omega (arith, r.time, w.time);
        sample = omega (arith, r.sample, w.sample);
        machine = r.machine ∙ w.machine;
      }
  left (quietly e s) (gives g t) = let z : ◌≡◌ {A = ℕ} 0 1 = cc in absurd (omega arith)
  left (sounding e s) (ends f g h) = let z : ◌≡◌ {A = ℕ} 0 1 = cc in absurd (omega arith)
  left (sounding e s) (goes f g t h) = let z : ◌≡◌ {A = ℕ} 0 1 = cc in absurd (omega arith)
  left {p = p} (sounding {l = l} {m = m} e s) (gives {m = x} {l = whole} g t) =
      let r = left s t in
      let w = turn_sounds p m e in
      let i : x ≡ m = cc in
      record {
        rest = r.rest;
        others = r.others;
        later = r.later;
        told = r.told;
        joined = rw i (ap (λ (y : List ℕ). m ++ y) r.joined ∙ sym (append_assoc m l r.rest));
        few = omega (arith, r.few);
        less = r.less;
        time = omega (arith, r.time, w.time);
        sample = omega (arith, r.sample, w.sample, length-append m l);
        machine = r.machine ∙ w.machine;
      }

  pub never_refused : {p : Place} {l : List ℕ} {f c : ℕ} → Tells turn p l f c → (k q : ℕ) → (turn p).said ≡ refused k q → ⊥
  never_refused (ends f g h) k q e = let z : ◌≡◌ {A = ℕ} 0 1 = cc in omega arith
  never_refused (goes f g t h) k q e = let z : ◌≡◌ {A = ℕ} 0 1 = cc in omega arith
  never_refused (gives g t) k q e = let z : ◌≡◌ {A = ℕ} 0 1 = cc in omega arith

  pub over_none : {p : Place} {l : List ℕ} {f c : ℕ} → Tells turn p l f c → (turn p).said ≡ over → l ≡ []
  over_none (ends f g h) e = refl
  over_none (goes f g t h) e = let z : ◌≡◌ {A = ℕ} 0 1 = cc in absurd (omega arith)
  over_none (gives g t) e = let z : ◌≡◌ {A = ℕ} 0 1 = cc in absurd (omega arith)
