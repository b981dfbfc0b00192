-- A level held at a pen: the sample under way, whole samples behind it, and the rest. Assumes nothing.
use Prim.Native.Nat.{ℕ, ◌+◌, ◌-◌, ◌≤◌, ◌<◌}
use mathlib.Core.Path.{◌≡◌}
use mathlib.Core.List.{List, []}
use native.Mathlib.Omega.{arith}
use lib.ListN.{length, replicate}
use lib.Seq.{sets}
use Rattle.c_bytes.specs.Numbers.{wide_bytes}
use Rattle.wav_sample.specs.declared.Sampler.{Sampler}
use Rattle.wav_sample.specs.Sampler.{sampler_after}
use Rattle.play_samples.specs.declared.Pace.{Pace}
use Rattle.play_samples.specs.declared.Pen.{Pen}
use Rattle.play_samples.specs.Pens.{pen_next, pen_within, pen_mean, Bounded, Fresh, Holding, Roomy, Drawn, Draws}
use Rattle.play_samples.proofs.WriteLaws.{writes_length}
use Rattle.play_samples.proofs.PenLaws.{next_fresh, bounded, drawn_within, drawn_whole, drawn_none, drawn_on, holding_on, room_on, room_whole, mean_fresh}

-- THE SAMPLE UNDER WAY, and what is behind it
module _ (c : Pace) (p : Pen) (v k : ℕ) (less : p.left ≤ k) (low : v ≤ 65535) where
  all : p.left + (k - p.left) ≡ k
  all = omega arith

  pub roomy_on : (size : ℕ) → Roomy c p v k size → Roomy c (pen_next c (p.place + 2) p.part) v (k - p.left) size
  roomy_on size r =
      let d = drawn_whole c r.sampler p k r.holding [] v in
      record {
        sampler = sampler_after c.pal c.rate r.sampler (replicate p.left v);
        holding = holding_on c r.sampler p [] v p.left (k - p.left) k all _ _ d low r.holding;
        room = room_on c r.sampler p [] v p.left (k - p.left) k all _ _ d size r.room;
      }

  pub draws_on : (out out' : List ℕ) (r : Pen)
      → Draws c (sets out p.place (wide_bytes 2 (pen_mean v p))) (pen_next c (p.place + 2) p.part) v (k - p.left) out' r → Draws c out p v k out' r
  draws_on out out' r then =
      record {
        drawn = λ a h.
            let d = drawn_whole c a p k h out v in
            drawn_on c a p out v p.left (k - p.left) k all _ _ d out' r
            (then.drawn (sampler_after c.pal c.rate a (replicate p.left v)) (holding_on c a p out v p.left (k - p.left) k all _ _ d low h));
      }

-- WHERE A LEVEL IS HELD sample by sample: all but `left` of its clocks are heard, and the pen is at a sample's beginning
pub record Filling (c : Pace) (out₀ : List ℕ) (p₀ : Pen) (v k : ℕ) (out : List ℕ) (p : Pen) (left : ℕ) : Type 0 where
  pub most : left ≤ k
  pub fresh : Fresh p
  pub drawn : (a : Sampler) → Holding c a p₀ k → Drawn c out₀ p₀ a (replicate (k - left) v) out p

pub filling_start : (c : Pace) (out : List ℕ) (p : Pen) (v k : ℕ) → Fresh p → Filling c out p v k out p k
filling_start c out p v k f =
    let e : k - k ≡ 0 = omega arith in
    record { most = omega arith; fresh = f; drawn = λ a h. rw e (drawn_none c a p out h.pen) }

module _ (c : Pace) (out₀ : List ℕ) (p₀ : Pen) (v k : ℕ) (out : List ℕ) (p : Pen) (left : ℕ) (low : v ≤ 65535) (g : Filling c out₀ p₀ v k out p left) where
  all_so_far : k - left + left ≡ k
  all_so_far = omega (arith, g.most)

  here : (a : Sampler) → Holding c a p₀ k → Holding c (sampler_after c.pal c.rate a (replicate (k - left) v)) p left
  here a h = holding_on c a p₀ out₀ v (k - left) left k all_so_far out p (g.drawn a h) low h

  module _ (r : Roomy c p₀ v k (length out₀)) where
    pub filling_bounded : Bounded p
    filling_bounded = bounded c _ p left (here r.sampler r.holding)

    pub filling_length : length out ≡ length out₀
    filling_length = writes_length (g.drawn r.sampler r.holding).writes

    pub filling_room : p.whole ≤ left → p.place + 2 ≤ length out
    filling_room h =
        let a = r.sampler in
        let room = room_on c a p₀ out₀ v (k - left) left k all_so_far out p (g.drawn a r.holding) (length out₀) r.room in
        omega (arith, room_whole c _ p v left (length out₀) (here a r.holding) (omega (arith, h, g.fresh.all)) room, filling_length)

  -- a whole sample
  pub filling_on : p.whole ≤ left → Filling c out₀ p₀ v k (sets out p.place (wide_bytes 2 v)) (pen_next c (p.place + 2) p.part) (left - p.whole)
  filling_on h =
      record {
        most = omega (arith, g.most);
        fresh = (next_fresh c (p.place + 2) p.part).0;
        drawn = λ a hold.
            let now = here a hold in
            let same = mean_fresh p v g.fresh (bounded c _ p left now).some in
            drawn_on c a p₀ out₀ v (k - left) p.left (k - (left - p.whole)) (omega (arith, g.fresh.all, g.most, h)) out p (g.drawn a hold) _ _
            (rw same at (drawn_whole c _ p left now out v));
      }

  -- the rest
  pub filling_end : left < p.whole → Draws c out₀ p₀ v k out (pen_within v left p)
  filling_end h =
      record {
        drawn = λ a hold.
            drawn_on c a p₀ out₀ v (k - left) left k all_so_far out p (g.drawn a hold) out _
            (drawn_within c _ p left (here a hold) out v (omega (arith, g.fresh.all, h)));
      }
