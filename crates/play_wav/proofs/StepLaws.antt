-- A step by turns: a line of the log is one, k clocks are k; and what refuses a place is what a step with no log tells. Assumes nothing.
use Prim.Native.Nat.{ℕ, zero, suc, ◌+◌, ◌-◌, ◌≤◌, ◌<◌}
use mathlib.Core.Path.{◌≡◌, refl, sym, ap, subst, ◌∙◌}
use mathlib.Core.List.{List, [], append-nil}
use native.Mathlib.Omega.{arith}
use borrow.Author.Tests.{eq-eqb, ne_eqb}
use Rattle.reading.specs.Saying.{Said, over, on, says, refused}
use Rattle.chip.specs.Range.{Bytes}
use Rattle.recording_cursor.specs.Stepping as cursor
use Rattle.wav_sample.proofs.ClockLaws.{before_onward}
use Rattle.wav_sample.proofs.OrderLaws.{ordered}
use Rattle.play_walk.specs.Walk.{walk_step}
use Rattle.play_samples.specs.declared.Place.{Place}
use Rattle.play_samples.specs.Stepping.{Go, go, sampler_at, clocks_in, clocks_step, met_step, refusal_of, step_by, step_of}
use Rattle.wav_rules.specs.Turns.{turn_of, Sounds, here, quietly, sounding}
use Rattle.wav_rules.proofs.TurnLaws.{none_fine, turn_refused, turn_line}
use Rattle.wav_rules.proofs.ClocksLaws.{clocks_samples, clocks_said, clocks_heard, clocks_turns}

-- WHAT A STEP IS, at any place
data Stepped (log memory : List ℕ) (rate k : ℕ) (p : Place) : Type 0 where
  halted : (refusal_of memory rate p ≡ 0 → ⊥) → step_by log memory rate k p ≡ go (refused (refusal_of memory rate p) 0) p → Stepped log memory rate k p
  line : refusal_of memory rate p ≡ 0 → p.left ≡ 0
      → step_by log memory rate k p ≡ met_step p (walk_step log p.moment).met (walk_step log p.moment).moment → Stepped log memory rate k p
  clocks : refusal_of memory rate p ≡ 0 → 0 < p.left → step_by log memory rate k p ≡ clocks_step memory rate k p → Stepped log memory rate k p

stepped : (log memory : List ℕ) (rate k : ℕ) (p : Place) → Stepped log memory rate k p
unfolding step_by
stepped log memory rate k p = by (refusal_of memory rate p) p.left refl refl
  where
    by : (j n : ℕ) → refusal_of memory rate p ≡ j → p.left ≡ n → Stepped log memory rate k p
    by zero zero e f = line e f (rw (eq-eqb (refusal_of memory rate p) 0 e, eq-eqb p.left 0 f))
    by zero (suc n) e f = clocks e (omega arith) (rw (eq-eqb (refusal_of memory rate p) 0 e, ne_eqb p.left 0 (λ z. omega arith)))
    by (suc j) n e f = let h : refusal_of memory rate p ≡ 0 → ⊥ = λ z. omega arith in halted h (rw (ne_eqb (refusal_of memory rate p) 0 h))

-- A STEP BY TURNS
module _ (log memory : List ℕ) (rate : ℕ) where
  -- from a place to another, by one turn or more
  pub record Moves (p : Place) (l : List ℕ) (q : Place) : Type 0 where
    pub turns : ℕ
    pub some : 0 < turns
    pub went : Sounds (turn_of log memory rate) p l turns q

  -- what is said at a place, and the place behind it: the end and a refusal are what the turn there says
  abbrev pub Came : Place → Said (List ℕ) → Place → Type 0
  Came p over q = (turn_of log memory rate p).said ≡ over
  Came p on q = Moves p [] q
  Came p (says l) q = Moves p l q
  Came p (refused k r) q = (turn_of log memory rate p).said ≡ refused k r

  one_turn : (p : Place) (w : Said (List ℕ)) → (turn_of log memory rate p).said ≡ w → Came p w (turn_of log memory rate p).state
  one_turn p over e = e
  one_turn p on e = record { turns = 1; some = omega arith; went = quietly e here }
  one_turn p (says l) e =
      record {
        turns = 1;
        some = omega arith;
        went = subst (λ (m : List ℕ). Sounds (turn_of log memory rate) p m 1 (turn_of log memory rate p).state) (append-nil l) (sounding e here);
      }
  one_turn p (refused k r) e = e

  -- with room for a sample there is a clock to work
  clocks_some : (room : ℕ) (p : Place) → 0 < room → refusal_of memory rate p ≡ 0 → 0 < p.left → 0 < clocks_in rate room p
  unfolding clocks_in
  clocks_some room p h none some =
      let f = none_fine memory rate p none in
      let o = ordered p.moment.state.pal rate (sampler_at p) f.order in
      let up = before_onward p.moment.state.pal rate f.right (p.sample + 1) (room - 1) in
      let e : p.sample + 1 + (room - 1) ≡ p.sample + room = omega arith in
      let u = rw e at up in
      let under = o.under in
      omega arith

  clocks_least : (room : ℕ) (p : Place) → clocks_in rate room p ≤ p.left
  unfolding clocks_in
  clocks_least room p = omega arith

  pub came : Bytes memory → (room : ℕ) (p : Place) → 0 < room → Came p (step_of log memory rate room p).said (step_of log memory rate room p).state
  came bytes room p some = by (stepped log memory rate (clocks_in rate room p) p)
    where
      by : Stepped log memory rate (clocks_in rate room p) p → Came p (step_of log memory rate room p).said (step_of log memory rate room p).state
      by (halted h e) = rw e (ap (λ (g : Go). g.said) (turn_refused log memory rate p h))
      by (line none left e) =
          let t = e ∙ sym (turn_line log memory rate p none left) in
          subst (λ (g : Go). Came p g.said g.state) (sym t) (one_turn p (turn_of log memory rate p).said refl)
      by (clocks none left e) =
          let k = clocks_in rate room p in
          let c = clocks_turns log memory rate bytes k p (clocks_least room p) none in
          let m : Moves p (clocks_samples memory rate k p) (clocks_step memory rate k p).state =
          record { turns = k; some = clocks_some room p some none left; went = rw (clocks_heard memory rate k p) at c } in
          subst (λ (g : Go). Came p g.said g.state) (sym e)
          (subst (λ (w : Said (List ℕ)). Came p w (clocks_step memory rate k p).state) (sym (clocks_said memory rate k p)) m)
