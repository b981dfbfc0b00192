-- A pen goes where the sampler goes. Assumes nothing.
use Prim.Native.Nat.{ℕ, ◌+◌, ◌-◌, ◌*◌, ◌/◌, ◌%◌, ◌≤◌, ◌<◌}
use mathlib.Core.Path.{◌≡◌, refl, sym, ap, ◌∙◌}
use mathlib.Core.Bool.{Bool, true}
use mathlib.Core.List.{List, [], ◌∷◌, ◌++◌}
use native.Mathlib.Nat.{mod-lt, div-lt_iff_lt-mul}
use native.Mathlib.Omega.{arith}
use borrow.Author.Tests.{ltb-true, ltb-false}
use lib.Dec.{ltb}
use lib.ListN.{replicate, length-replicate, replicate-append-replicate}
use lib.Seq.{sets}
use Rattle.arith.proofs.PickLaws.{pick_each, pick_both}
use Rattle.clock_rate.specs.Rate.{clock_rate}
use Rattle.c_bytes.specs.Numbers.{wide_bytes}
use Rattle.wav_sample.specs.declared.Sampler.{Sampler}
use Rattle.wav_sample.specs.Samples.{rate_right, clocks_before, clocks_of}
use Rattle.wav_sample.specs.Sampler.{sampler_of, sampler_after, in_order}
use Rattle.wav_sample.specs.Closed.{over_before}
use Rattle.wav_sample.proofs.ClockLaws.{right_low, right_top, clock_rate_top}
use Rattle.wav_sample.proofs.OrderLaws.{replicate_most}
use Rattle.wav_sample.proofs.HeldLaws.{Holds, holds_within, holds_end}
use Rattle.wav_sample.proofs.FitLaws.{rate_some, stands, mean_level}
use Rattle.wav_sample.proofs.FeedLaws.{after_none, after_join}
use Rattle.wav_sample.proofs.NextLaws.{over_low, clocks_even, clocks_more, clocks_few}
use Rattle.play_samples.specs.declared.Pace.{Pace}
use Rattle.play_samples.specs.declared.Pen.{Pen}
use Rattle.play_samples.specs.Writing.{size_of}
use Rattle.play_samples.specs.Pens.{pace_of, pen_next, pen_within, pen_mean, Slow, Bounded, Fresh, Paced, PenAt, Holding, Drawn}
use Rattle.play_samples.proofs.WriteLaws.{writes_none, writes_still, writes_one, writes_join, size_join, fit_on}

-- A PACE
pub paced : (pal : Bool) (rate : ℕ) → rate_right rate ≡ true → Paced (pace_of pal rate)
paced pal rate right = record { right = right; quotient = refl; remainder = refl; lack = refl }

pub slow : (c : Pace) → Paced c → Slow c
slow c p =
    let some = rate_some c.pal c.rate p.right in
    let m : clock_rate c.pal % c.rate < c.rate = mod-lt (clock_rate c.pal) some in
    let q : clock_rate c.pal / c.rate < 224 =
    (div-lt_iff_lt-mul {k = c.rate} {x = clock_rate c.pal} {y = 224} some).1 (omega (arith, clock_rate_top c.pal, right_low c.rate p.right)) in
    record { quotient = omega (arith, p.quotient); rate = omega (arith, p.remainder, p.lack, right_top c.rate p.right) }

-- THE NEXT SAMPLE
pub next_fresh : (c : Pace) (place part : ℕ) → Fresh (pen_next c place part) × ((pen_next c place part).place ≡ place)
unfolding pen_next
next_fresh c place part =
    pick_both (λ (p : Pen). Fresh p × (p.place ≡ place)) (ltb part c.lack) (record { all = refl; none = refl }, refl) (record { all = refl; none = refl }, refl)

next_at : (c : Pace) (place part s : ℕ) → Paced c → part ≡ over_before c.pal c.rate s → PenAt c (sampler_of (clocks_before c.pal c.rate s) s 0) (pen_next c place part)
unfolding pen_next clocks_of
next_at c place part s p e =
    pick_each (PenAt c (sampler_of (clocks_before c.pal c.rate s) s 0)) (ltb part c.lack)
    (λ t.
    let h = ltb-true part c.lack t in
    let n = clocks_even c.pal c.rate p.right s (omega (arith, h, e, p.lack)) in
    record { left = omega (arith, n.0, p.quotient); whole = omega (arith, n.0, p.quotient); sum = refl; part = omega (arith, n.1, e, p.remainder) })
    (λ t.
    let h = ltb-false part c.lack t in
    let m : clock_rate c.pal % c.rate < c.rate = mod-lt (clock_rate c.pal) (rate_some c.pal c.rate p.right) in
    let n = clocks_more c.pal c.rate p.right s (omega (arith, h, e, p.lack)) in
    record { left = omega (arith, n.0, p.quotient); whole = omega (arith, n.0, p.quotient); sum = refl; part = omega (arith, n.1, e, p.lack) })

-- WHERE A SAMPLER STANDS, in a pen's numbers
pub record Numbers (pal : Bool) (rate : ℕ) (a : Sampler) : Type 0 where
  pub few : a.sample ≤ 400000000
  pub begun : clocks_before pal rate a.sample ≤ a.clock
  pub under : a.clock < clocks_before pal rate (a.sample + 1)
  pub short : clocks_before pal rate (a.sample + 1) - clocks_before pal rate a.sample ≤ 224
  pub total : a.sum ≤ 65535 * (a.clock - clocks_before pal rate a.sample)
  pub part : over_before pal rate (a.sample + 1) < 192000

pub numbers : (pal : Bool) (rate : ℕ) (a : Sampler) → rate_right rate ≡ true → in_order pal rate a ≡ true → Numbers pal rate a
unfolding clocks_of
numbers pal rate a right order =
    let s = stands pal rate a right order in
    record {
      few = s.few;
      begun = s.order.begun;
      under = s.order.under;
      short = clocks_few pal rate right a.sample;
      total = s.order.total;
      part = omega (arith, over_low pal rate right (a.sample + 1), right_top rate right);
    }

-- A PEN AT A SAMPLER that may be fed
module _ (c : Pace) (a : Sampler) (p : Pen) (k : ℕ) (h : Holding c a p k) where
  pub bounded : Bounded p
  unfolding clocks_of
  bounded =
      let n = numbers c.pal c.rate a h.paced.right h.fit.order in
      let e = h.pen in
      record {
        some = omega (arith, e.whole, n.begun, n.under);
        short = omega (arith, e.whole, n.short);
        under = omega (arith, e.whole, e.left, n.begun, n.under);
        total = omega (arith, e.whole, e.left, e.sum, n.begun, n.under, n.total);
      }

  -- a level within the sample under way
  pub drawn_within : (out : List ℕ) (v : ℕ) → k < p.left → Drawn c out p a (replicate k v) out (pen_within v k p)
  drawn_within out v less =
      let w =
      holds_within c.pal c.rate v k a.clock a.sample a.sum (omega (arith, h.pen.left)) in
      record {
        writes = writes_still c.pal c.rate out p.place a (replicate k v) w.gives;
        pen =
            rw w.leaves
            (record {
              left = omega (arith, h.pen.left);
              whole = h.pen.whole;
              sum = ap (λ (x : ℕ). x + v * k) h.pen.sum;
              part = h.pen.part;
            });
      }

  -- a level that makes it whole
  holds_mean : (v : ℕ) → Holds c.pal c.rate v p.left a (pen_mean v p ∷ []) (sampler_of (clocks_before c.pal c.rate (a.sample + 1)) (a.sample + 1) 0)
  holds_mean v =
      rw (h.pen.left, h.pen.sum, h.pen.whole)
      (holds_end c.pal c.rate v a.clock a.sample a.sum (numbers c.pal c.rate a h.paced.right h.fit.order).under)

  pub drawn_whole : (out : List ℕ) (v : ℕ) → Drawn c out p a (replicate p.left v) (sets out p.place (wide_bytes 2 (pen_mean v p))) (pen_next c (p.place + 2) p.part)
  drawn_whole out v =
      let w = holds_mean v in
      record {
        writes =
            rw (next_fresh c (p.place + 2) p.part).1 (writes_one c.pal c.rate out p.place a (replicate p.left v) (pen_mean v p) w.gives);
        pen = rw w.leaves (next_at c (p.place + 2) p.part (a.sample + 1) h.paced h.pen.part);
      }

-- LEVELS PIECE BY PIECE
module _ (c : Pace) (a : Sampler) (p : Pen) where
  pub drawn_none : (out : List ℕ) → PenAt c a p → Drawn c out p a [] out p
  drawn_none out e =
      let z = after_none c.pal c.rate a in
      record { writes = rw z (writes_none c.pal c.rate out p.place a); pen = rw z e }

  module _ (out : List ℕ) (v j k n : ℕ) (all : j + k ≡ n) (mid : List ℕ) (q : Pen) (d : Drawn c out p a (replicate j v) mid q) where
    split : replicate n v ≡ replicate j v ++ replicate k v
    split = ap (λ (x : ℕ). replicate x v) (sym all) ∙ sym (replicate-append-replicate j k v)

    pub drawn_on : (out' : List ℕ) (r : Pen) → Drawn c mid q (sampler_after c.pal c.rate a (replicate j v)) (replicate k v) out' r → Drawn c out p a (replicate n v) out' r
    drawn_on out' r then =
        let e = after_join c.pal c.rate (replicate j v) (replicate k v) a in
        rw split
        (record {
          writes =
              rw e (writes_join c.pal c.rate out p.place a (replicate j v) mid q.place _ (replicate k v) out' r.place _ d.writes then.writes);
          pen = rw e then.pen;
        })

    pub holding_on : v ≤ 65535 → Holding c a p n → Holding c (sampler_after c.pal c.rate a (replicate j v)) q k
    holding_on low h =
        record {
          paced = h.paced;
          fit =
              fit_on c.pal c.rate a _ n k (replicate j v) (replicate_most j v low) (omega (arith, length-replicate j v, all)) refl h.fit;
          pen = d.pen;
        }

    pub room_on : (size : ℕ) → p.place + size_of c.pal c.rate a (replicate n v) ≤ size
        → q.place + size_of c.pal c.rate (sampler_after c.pal c.rate a (replicate j v)) (replicate k v) ≤ size
    room_on size h =
        let e = ap (size_of c.pal c.rate a) split ∙ size_join c.pal c.rate a (replicate j v) (replicate k v) in
        omega (arith, h, e, d.writes.place)

-- the first sample has room where all have
pub room_whole : (c : Pace) (a : Sampler) (p : Pen) (v k size : ℕ) → Holding c a p k → p.left ≤ k → p.place + size_of c.pal c.rate a (replicate k v) ≤ size
    → p.place + 2 ≤ size
room_whole c a p v k size h less room =
    let e : p.left + (k - p.left) ≡ k = omega arith in
    let d = drawn_whole c a p k h [] v in
    omega (arith, room_on c a p [] v p.left (k - p.left) k e _ _ d size room, (next_fresh c (p.place + 2) p.part).1)

-- a whole sample of one level is that level
pub mean_fresh : (p : Pen) (v : ℕ) → Fresh p → 0 < p.whole → pen_mean v p ≡ v
mean_fresh p v f some = rw (f.none, f.all) (mean_level v p.whole some)
