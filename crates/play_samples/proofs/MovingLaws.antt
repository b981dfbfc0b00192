-- A pen from record to record of a run. Assumes nothing.
use Prim.Native.Nat.{ℕ, ◌+◌, ◌-◌, ◌*◌, ◌/◌, ◌≤◌, ◌<◌}
use mathlib.Core.Path.{◌≡◌, refl, ap, ◌∙◌}
use mathlib.Core.Bool.{Bool}
use mathlib.Core.List.{List}
use native.Mathlib.Omega.{arith}
use lib.ListN.{length, get_or, replicate}
use Rattle.wav_sample.specs.declared.Sampler.{Sampler}
use Rattle.wav_sample.specs.Sampler.{sampler_after}
use Rattle.wav_sample.proofs.FeedLaws.{after_clock, after_sample}
use Rattle.play_samples.specs.declared.Pace.{Pace}
use Rattle.play_samples.specs.declared.Pen.{Pen}
use Rattle.play_samples.specs.Writing.{Fit, size_of, Writes, word_levels, Recorded}
use Rattle.play_samples.specs.Pens.{pace_of, written_by, PenAt, Holding, Roomy, Draws}
use Rattle.play_samples.proofs.WriteLaws.{Going, going_start, going_on, going_end, word_length}
use Rattle.play_samples.proofs.PenLaws.{paced}

-- the sampler behind levels, by the pen
pub writes_by : (pal : Bool) (rate : ℕ) (out : List ℕ) (at : ℕ) (a : Sampler) (l out' : List ℕ) (q : Pen) (b : Sampler) (c : Pace) (end : ℕ)
    → Writes pal rate out at a l out' q.place b → PenAt c b q → length l ≡ end → Writes pal rate out at a l out' q.place (written_by a at q end).sampler
unfolding size_of
writes_by pal rate out at a l out' q b c end w p e =
    let s = sampler_after pal rate a l in
    let clock : a.clock + end ≡ s.clock = omega (arith, e, after_clock pal rate l a) in
    let sample : a.sample + (q.place - at) / 2 ≡ s.sample = omega (arith, w.place, (after_sample pal rate l a).0) in
    let sum : q.sum ≡ s.sum = p.sum ∙ ap (λ (x : Sampler). x.sum) w.sampler in
    record { place = w.place; sampler = rw (clock, sample, sum) refl; bytes = w.bytes }

-- WHERE THE RECORDS ARE HEARD up to record i, by a pen
pub record Moving (pal : Bool) (rate : ℕ) (words : List ℕ) (n end : ℕ) (out₀ : List ℕ) (at₀ : ℕ) (a₀ : Sampler) (v₀ : ℕ) (out : List ℕ) (p : Pen) (v from i : ℕ) : Type 0 where
  pub sampler : Sampler
  pub pen : PenAt (pace_of pal rate) sampler p
  pub going : Going pal rate words n end out₀ at₀ a₀ v₀ out p.place sampler v from i

-- record i: what is held up to it may be written, and the records go on behind it
pub record Past (pal : Bool) (rate : ℕ) (words : List ℕ) (n end : ℕ) (out₀ : List ℕ) (at₀ : ℕ) (a₀ : Sampler) (v₀ : ℕ) (out : List ℕ) (p : Pen) (v from i x y : ℕ) : Type 0 where
  pub behind : from < x
  pub small : y ≤ 32767
  pub roomy : Roomy (pace_of pal rate) p v (x - 1 - from) (length out)
  pub on : (out' : List ℕ) (q : Pen) → Draws (pace_of pal rate) out p v (x - 1 - from) out' q → Moving pal rate words n end out₀ at₀ a₀ v₀ out' q y (x - 1) (i + 1)

-- behind the last one: what is held to the end
pub record Last (pal : Bool) (rate : ℕ) (words : List ℕ) (n end : ℕ) (out₀ : List ℕ) (at₀ : ℕ) (a₀ : Sampler) (v₀ : ℕ) (out : List ℕ) (p : Pen) (v from : ℕ) : Type 0 where
  pub most : from ≤ end
  pub roomy : Roomy (pace_of pal rate) p v (end - from) (length out)
  pub all : (out' : List ℕ) (q : Pen) → Draws (pace_of pal rate) out p v (end - from) out' q
      → Writes pal rate out₀ at₀ a₀ (word_levels v₀ n words end) out' q.place (written_by a₀ at₀ q end).sampler

holding : (pal : Bool) (rate : ℕ) (a : Sampler) (p : Pen) (k : ℕ) → Fit pal rate a k → PenAt (pace_of pal rate) a p → Holding (pace_of pal rate) a p k
holding pal rate a p k f e = record { paced = paced pal rate f.right; fit = f; pen = e }

module _ (pal : Bool) (rate : ℕ) (words : List ℕ) (n end : ℕ) (rec : Recorded words n end) (out₀ : List ℕ) (at₀ : ℕ) (a₀ : Sampler) (v₀ : ℕ) where
  pub moving_start : v₀ ≤ 65535 → Fit pal rate a₀ end → (p : Pen) → p.place ≡ at₀ → PenAt (pace_of pal rate) a₀ p
      → Moving pal rate words n end out₀ at₀ a₀ v₀ out₀ p v₀ 0 0
  moving_start low fit p e pen = record { sampler = a₀; pen = pen; going = rw e (going_start pal rate words n end rec out₀ at₀ a₀ v₀ low fit) }

  module _ (out : List ℕ) (p : Pen) (v from i : ℕ) (room : at₀ + size_of pal rate a₀ (word_levels v₀ n words end) ≤ length out₀)
      (m : Moving pal rate words n end out₀ at₀ a₀ v₀ out p v from i) where
    pub moving_on : i < n → Past pal rate words n end out₀ at₀ a₀ v₀ out p v from i (get_or words (2 * i) 0) (get_or words (2 * i + 1) 0)
    moving_on h =
        let a = m.sampler in
        let o = going_on pal rate words n end rec out₀ at₀ a₀ v₀ out p.place a v from i room m.going h in
        let may = holding pal rate a p (get_or words (2 * i) 0 - 1 - from) o.fit m.pen in
        record {
          behind = o.behind;
          small = o.small;
          roomy = record { sampler = a; holding = may; room = o.room };
          on = λ out' q d.
              let w = d.drawn a may in
              record {
                sampler = sampler_after pal rate a (replicate (get_or words (2 * i) 0 - 1 - from) v);
                pen = w.pen;
                going = o.on out' q.place _ w.writes;
              };
        }

    pub moving_end : n ≤ i → Last pal rate words n end out₀ at₀ a₀ v₀ out p v from
    moving_end h =
        let a = m.sampler in
        let o = going_end pal rate words n end rec out₀ at₀ a₀ v₀ out p.place a v from i room m.going h in
        let may = holding pal rate a p (end - from) o.fit m.pen in
        record {
          most = o.most;
          roomy = record { sampler = a; holding = may; room = o.room };
          all = λ out' q d.
              let w = d.drawn a may in
              writes_by pal rate out₀ at₀ a₀ (word_levels v₀ n words end) out' q _ (pace_of pal rate) end (o.all out' q.place _ w.writes) w.pen
              (word_length v₀ words n end rec);
        }
