-- One turn: what refuses a place, and from a place that nothing refuses a line of the log, by what it says, or one clock. Assumes nothing.
use Prim.Native.Nat.{ℕ, zero, suc, ◌+◌, ◌≤◌, ◌<◌}
use mathlib.Core.Path.{◌≡◌, refl, ◌∙◌}
use mathlib.Core.Bool.{Bool, true, false}
use mathlib.Core.List.{List}
use native.Mathlib.Omega.{arith}
use borrow.Author.Tests.{eq-eqb, ne_eqb, le-leb, eqb-true, leb-true}
use lib.Dec.{leb}
use lib.ListN.{length}
use Rattle.arith.specs.Pick.{pick}
use Rattle.bus.specs.declared.Access as busAccess
use Rattle.reading.specs.Saying.{over, on, says, refused}
use Rattle.log_line.specs.declared.Act.TheVariants.{Wait, Access}
use Rattle.recording_cursor.specs.Stepping as cursor
use Rattle.chip.specs.Range.{in_range}
use Rattle.chip_access.specs.Access.{access_state}
use Rattle.chip_api.specs.Answer.{is_memory}
use Rattle.wav_sample.specs.Samples.{rate_right}
use Rattle.wav_sample.specs.Sampler.{in_order}
use Rattle.play_walk.specs.Walk.{moment_of, act_met, act_state, given_met, walk_step}
use Rattle.play_samples.specs.declared.Place.{Place}
use Rattle.play_samples.specs.Stepping.{go, place_of, sampler_at, clocks_step, met_step, refusal_of, step_by}
use Rattle.wav_rules.specs.Turns.{turn_of}

-- A PLACE THAT NOTHING REFUSES
pub record Fine (memory : List ℕ) (rate : ℕ) (p : Place) : Type 0 where
  pub long : length memory ≡ 32768
  pub ranged : in_range p.moment.state ≡ true
  pub few : p.left ≤ 1000000
  pub early : p.moment.time + p.left ≤ 2000000000
  pub right : rate_right rate ≡ true
  pub order : in_order p.moment.state.pal rate (sampler_at p) ≡ true

module _ (memory : List ℕ) (rate : ℕ) (p : Place) where
  pub none_fine : refusal_of memory rate p ≡ 0 → Fine memory rate p
  unfolding refusal_of
  none_fine e =
      by (is_memory memory) (in_range p.moment.state) (leb p.left 1000000) (leb (p.moment.time + p.left) 2000000000) (rate_right rate)
      (in_order p.moment.state.pal rate (sampler_at p)) refl refl refl refl refl refl e
    where
      by : (a b c d f g : Bool) → is_memory memory ≡ a → in_range p.moment.state ≡ b → leb p.left 1000000 ≡ c
          → leb (p.moment.time + p.left) 2000000000 ≡ d → rate_right rate ≡ f → in_order p.moment.state.pal rate (sampler_at p) ≡ g
          → ◌≡◌ {A = ℕ} (pick a (pick b (pick c (pick d (pick f (pick g 0 2) 33) 9) 3) 2) 1) 0 → Fine memory rate p
      by true true true true true true i j k l m n z =
          record {
            long = eqb-true (length memory) 32768 i;
            ranged = j;
            few = leb-true p.left 1000000 k;
            early = leb-true (p.moment.time + p.left) 2000000000 l;
            right = m;
            order = n;
          }
      by true true true true true false i j k l m n z = absurd (omega (arith, z))
      by true true true true false g i j k l m n z = absurd (omega (arith, z))
      by true true true false f g i j k l m n z = absurd (omega (arith, z))
      by true true false d f g i j k l m n z = absurd (omega (arith, z))
      by true false c d f g i j k l m n z = absurd (omega (arith, z))
      by false b c d f g i j k l m n z = absurd (omega (arith, z))

  -- by its parts: but for the clocks in all, nothing refuses it
  pub refusal_late : length memory ≡ 32768 → in_range p.moment.state ≡ true → p.left ≤ 1000000 → rate_right rate ≡ true
      → in_order p.moment.state.pal rate (sampler_at p) ≡ true → refusal_of memory rate p ≡ pick (leb (p.moment.time + p.left) 2000000000) 0 9
  unfolding refusal_of
  refusal_late long ranged few right order = rw (eq-eqb (length memory) 32768 long, ranged, le-leb p.left 1000000 few, right, order)

  pub fine_none : Fine memory rate p → refusal_of memory rate p ≡ 0
  fine_none f =
      refusal_late f.long f.ranged f.few f.right f.order ∙ rw (le-leb (p.moment.time + p.left) 2000000000 f.early) refl

module _ (log memory : List ℕ) (rate : ℕ) (p : Place) where
  pub turn_refused : (refusal_of memory rate p ≡ 0 → ⊥) → turn_of log memory rate p ≡ go (refused (refusal_of memory rate p) 0) p
  unfolding step_by
  turn_refused h = rw (ne_eqb (refusal_of memory rate p) 0 h)

  module _ (none : refusal_of memory rate p ≡ 0) where
    -- ONE CLOCK of a wait
    pub turn_clock : 0 < p.left → turn_of log memory rate p ≡ clocks_step memory rate 1 p
    unfolding step_by
    turn_clock h = rw (none, ne_eqb p.left 0 (λ z. omega arith))

    -- A LINE of the log, by what the walk meets,
    module _ (line : p.left ≡ 0) where
      pub turn_line : turn_of log memory rate p ≡ met_step p (walk_step log p.moment).met (walk_step log p.moment).moment
      unfolding step_by
      turn_line = rw (none, eq-eqb p.left 0 line)

      -- or by what the cursor says
      pub turn_over : (cursor.step_of log p.moment.cursor).said ≡ over
          → turn_of log memory rate p
          ≡ go over (place_of (moment_of (cursor.step_of log p.moment.cursor).state p.moment.state p.moment.time) 0 p.sample p.sum)
      unfolding met_step walk_step given_met
      turn_over e = turn_line ∙ rw e refl

      pub turn_on : (cursor.step_of log p.moment.cursor).said ≡ on
          → turn_of log memory rate p
          ≡ go on (place_of (moment_of (cursor.step_of log p.moment.cursor).state p.moment.state p.moment.time) 0 p.sample p.sum)
      unfolding met_step walk_step given_met
      turn_on e = turn_line ∙ rw e refl

      pub turn_wait : (n : ℕ) → (cursor.step_of log p.moment.cursor).said ≡ says (Wait n)
          → turn_of log memory rate p
          ≡ go on (place_of (moment_of (cursor.step_of log p.moment.cursor).state p.moment.state p.moment.time) n p.sample p.sum)
      unfolding met_step walk_step given_met act_met act_state
      turn_wait n e = turn_line ∙ rw e refl

      pub turn_access : (x : busAccess.Access) → (cursor.step_of log p.moment.cursor).said ≡ says (Access x)
          → turn_of log memory rate p
          ≡ go on
          (place_of (moment_of (cursor.step_of log p.moment.cursor).state (access_state x p.moment.state) p.moment.time) 0 p.sample p.sum)
      unfolding met_step walk_step given_met act_met act_state
      turn_access x e = turn_line ∙ rw e refl

      pub turn_fault : (k q : ℕ) → (cursor.step_of log p.moment.cursor).said ≡ refused k q
          → turn_of log memory rate p
          ≡ go (refused k q) (place_of (moment_of (cursor.step_of log p.moment.cursor).state p.moment.state p.moment.time) 0 p.sample p.sum)
      unfolding met_step walk_step given_met
      turn_fault k q e = turn_line ∙ rw e refl

-- WHAT A TURN IS, at any place
pub data Taken (log memory : List ℕ) (rate : ℕ) (p : Place) : Type 0 where
  halted : (refusal_of memory rate p ≡ 0 → ⊥) → turn_of log memory rate p ≡ go (refused (refusal_of memory rate p) 0) p → Taken log memory rate p
  line : refusal_of memory rate p ≡ 0 → p.left ≡ 0
      → turn_of log memory rate p ≡ met_step p (walk_step log p.moment).met (walk_step log p.moment).moment → Taken log memory rate p
  clock : refusal_of memory rate p ≡ 0 → 0 < p.left → turn_of log memory rate p ≡ clocks_step memory rate 1 p → Taken log memory rate p

pub taken : (log memory : List ℕ) (rate : ℕ) (p : Place) → Taken log memory rate p
taken log memory rate p = by (refusal_of memory rate p) p.left refl refl
  where
    by : (k n : ℕ) → refusal_of memory rate p ≡ k → p.left ≡ n → Taken log memory rate p
    by zero zero e f = line e f (turn_line log memory rate p e f)
    by zero (suc n) e f = let h : 0 < p.left = omega (arith, f) in clock e h (turn_clock log memory rate p e h)
    by (suc k) n e f = let h : refusal_of memory rate p ≡ 0 → ⊥ = λ z. omega (arith, e, z) in halted h (turn_refused log memory rate p h)
