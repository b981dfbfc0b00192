-- One step by its tests. Assumes nothing.
use Prim.Native.Nat.{ℕ, ◌+◌, ◌-◌, ◌≤◌, ◌<◌}
use mathlib.Core.Path.{◌≡◌, refl, sym, ap, ◌∙◌}
use mathlib.Core.Bool.{Bool, true, false}
use mathlib.Core.List.{List, []}
use native.Mathlib.Omega.{arith}
use borrow.Author.Tests.{eq-eqb, ne_eqb, le-leb, lt-leb, eqb-true, leb-true}
use lib.Dec.{leb}
use lib.ListN.{length}
use Rattle.arith.specs.Over.{over}
use Rattle.arith.specs.Pick.{pick}
use Rattle.chip.specs.Range.{in_range}
use Rattle.chip_api.specs.Answer.{is_memory}
use Rattle.reading.specs.Saying.{refused}
use Rattle.wav_sample.specs.Samples.{rate_right}
use Rattle.wav_sample.specs.Sampler.{in_order}
use Rattle.wav_write.specs.Bytes.{sample_bytes}
use Rattle.play_walk.specs.Walk.{walk_step}
use Rattle.play_walk.specs.declared.Moment.{Moment}
use Rattle.play_walk.specs.declared.Met.{Met}
use Rattle.play_samples.specs.declared.Place.{Place}
use Rattle.play_samples.specs.Writing.{Fit}
use Rattle.play_samples.specs.Stepping.{Go, go, heard, sampler_at, clocks_in, clocks_step, met_step, refusal_of, step_by, step_of}

-- what refuses a rate or the sample under way
abbrev pub sample_refusal : ℕ → Place → ℕ
sample_refusal rate p = pick (rate_right rate) (pick (in_order p.moment.state.pal rate (sampler_at p)) 0 2) 33

-- by number
module _ (memory : List ℕ) (rate : ℕ) (p : Place) where
  pub refusal_one : (length memory ≡ 32768 → ⊥) → 1 ≡ refusal_of memory rate p
  unfolding refusal_of
  refusal_one h = rw (ne_eqb (length memory) 32768 h)

  module _ (long : length memory ≡ 32768) where
    pub refusal_two : in_range p.moment.state ≡ false → 2 ≡ refusal_of memory rate p
    unfolding refusal_of
    refusal_two e = rw (eq-eqb (length memory) 32768 long, e)

    module _ (fine : in_range p.moment.state ≡ true) where
      pub refusal_three : 1000000 < p.left → 3 ≡ refusal_of memory rate p
      unfolding refusal_of
      refusal_three h = rw (eq-eqb (length memory) 32768 long, fine, lt-leb p.left 1000000 h)

      module _ (low : p.left ≤ 1000000) where
        pub refusal_nine : leb (p.moment.time + p.left) 2000000000 ≡ false → 9 ≡ refusal_of memory rate p
        unfolding refusal_of
        refusal_nine e = rw (eq-eqb (length memory) 32768 long, fine, le-leb p.left 1000000 low, e)

        pub refusal_rest : leb (p.moment.time + p.left) 2000000000 ≡ true → sample_refusal rate p ≡ refusal_of memory rate p
        unfolding refusal_of
        refusal_rest e = rw (eq-eqb (length memory) 32768 long, fine, le-leb p.left 1000000 low, e)

-- a place that nothing refuses
pub record Fine (memory : List ℕ) (rate : ℕ) (p : Place) : Type 0 where
  pub long : length memory ≡ 32768
  pub ranged : in_range p.moment.state ≡ true
  pub fit : Fit p.moment.state.pal rate (sampler_at p) p.left

pub fine : (memory : List ℕ) (rate : ℕ) (p : Place) → refusal_of memory rate p ≡ 0 → Fine memory rate p
unfolding refusal_of
fine memory rate p e =
    by (is_memory memory) (in_range p.moment.state) (leb p.left 1000000) (leb (p.moment.time + p.left) 2000000000) (rate_right rate)
    (in_order p.moment.state.pal rate (sampler_at p)) refl refl refl refl refl refl e
  where
    by : (a b c d f g : Bool) → is_memory memory ≡ a → in_range p.moment.state ≡ b → leb p.left 1000000 ≡ c
        → leb (p.moment.time + p.left) 2000000000 ≡ d → rate_right rate ≡ f → in_order p.moment.state.pal rate (sampler_at p) ≡ g
        → ◌≡◌ {A = ℕ} (pick a (pick b (pick c (pick d (pick f (pick g 0 2) 33) 9) 3) 2) 1) 0 → Fine memory rate p
    by true true true true true true i j k l m n z =
        record {
          long = eqb-true (length memory) 32768 i;
          ranged = j;
          fit = record { right = m; order = n; few = leb-true p.left 1000000 k; early = leb-true (p.moment.time + p.left) 2000000000 l };
        }
    by true true true true true false i j k l m n z = absurd (omega (arith, z))
    by true true true true false g i j k l m n z = absurd (omega (arith, z))
    by true true true false f g i j k l m n z = absurd (omega (arith, z))
    by true true false d f g i j k l m n z = absurd (omega (arith, z))
    by true false c d f g i j k l m n z = absurd (omega (arith, z))
    by false b c d f g i j k l m n z = absurd (omega (arith, z))

-- nothing said, nothing written
pub over_none : (l : List ℕ) → l ≡ over (sample_bytes []) l
unfolding over sample_bytes
over_none l = refl

module _ (log memory : List ℕ) (rate room : ℕ) (p : Place) where
  pub step_refused : (refusal_of memory rate p ≡ 0 → ⊥) → go (refused (refusal_of memory rate p) 0) p ≡ step_of log memory rate room p
  unfolding step_by
  step_refused h = rw (ne_eqb (refusal_of memory rate p) 0 h)

  module _ (none : refusal_of memory rate p ≡ 0) where
    pub step_log : p.left ≡ 0 → met_step p (walk_step log p.moment).met (walk_step log p.moment).moment ≡ step_of log memory rate room p
    unfolding step_by
    step_log e = rw (none, eq-eqb p.left 0 e)

    pub step_clocks : (p.left ≡ 0 → ⊥) → clocks_step memory rate (clocks_in rate room p) p ≡ step_of log memory rate room p
    unfolding step_by
    step_clocks h = rw (none, ne_eqb p.left 0 h)

-- no bytes where nothing is said
pub over_refused : (out : List ℕ) (k q : ℕ) (p : Place) (g : Go) → go (refused k q) p ≡ g → out ≡ over (sample_bytes (heard g.said)) out
unfolding heard
over_refused out k q p g e = over_none out ∙ ap (λ (x : Go). over (sample_bytes (heard x.said)) out) e

met_none : (p : Place) (x : Met) (m : Moment) → heard (met_step p x m).said ≡ []
unfolding heard met_step
met_none p Met.Moved m = refl
met_none p (Met.Access x b a) m = refl
met_none p (Met.Wait n) m = refl
met_none p Met.End m = refl
met_none p (Met.Refused k q) m = refl

pub over_met : (out : List ℕ) (p : Place) (x : Met) (m : Moment) (g : Go) → met_step p x m ≡ g → out ≡ over (sample_bytes (heard g.said)) out
over_met out p x m g e =
    over_none out ∙ (ap (λ (l : List ℕ). over (sample_bytes l) out) (sym (met_none p x m)) ∙ ap (λ (y : Go). over (sample_bytes (heard y.said)) out) e)
