-- The triangle as a stretch keeps it. Assumes nothing.
use Rattle.std.proofs.Common.{◌≡◌, ℕ, ◌+◌, ◌%◌, ◌<◌, ◌≤◌, Bool, true, false, eqb, sym, refl, ap, ◌∙◌, subst, arith, eqb-true}
use borrow.Author.Tests.{eqb-false}
use Rattle.arith.specs.Iterate.{iterate}
use Rattle.arith.specs.Pick.{pick}
use Rattle.leap_still.specs.Forever.{forever}
use Rattle.leap_stretch.specs.Lag.{Follows}
use Rattle.leap_stretch.proofs.LagLaws.{lag_start, lag_wait}
use Rattle.chip_triangle.specs.Triangle.{runs, triangle_sequenced, with_sequencer, triangle_at, triangle_output}
use Rattle.leap_triangle.specs.Leap.{triangle_gate, triangle_beat_of, triangle_with_beat, triangle_beat_clock, triangle_gives, triangle_still, triangle_beat_advanced, triangle_beat_turned}
use Rattle.leap_triangle.specs.Lag.{triangle_lag, triangle_renewed}
use Rattle.chip_triangle.specs.declared.Sequencer.{Sequencer}
use Rattle.chip_triangle.specs.declared.Triangle.{Triangle}
use Rattle.leap_triangle.specs.declared.Beat.{Beat}
use Rattle.leap_triangle.specs.declared.lag.TriangleLag.{TriangleLag}
use Rattle.chip_triangle.proofs.RangeLaws.{TriangleRanged}
use Rattle.leap_triangle.proofs.LeapLaws.{BeatRanged, beat_clocked, beat_ranged, triangle_beat_closed, triangle_beats, triangle_still_lem, triangle_turned, triangle_gives_at}
use Rattle.leap_triangle.proofs.LagLaws.{moved}
use Rattle.leap_stretch.proofs.TurnLaws.{Leaps, turned_follows, held_gives}

-- kept at clock `now` of a stretch that began with the triangle q: there is a beat, reached at clock `at`, of which it is what is kept
pub record TriangleKept (q : Triangle) (now : ℕ) (l : TriangleLag) : Type 0 where
  pub beat : Beat
  pub at : ℕ
  pub kept : l ≡ triangle_lag (triangle_gate q) beat at
  pub follows :
      Follows (triangle_beat_clock (triangle_gate q)) triangle_gives (triangle_still (triangle_gate q)) (triangle_beat_of q.sequencer) now beat at
      l.next (triangle_at l.position)

leaps : (on : ℕ) → Leaps (triangle_beat_clock on) triangle_gives (triangle_still on) triangle_beat_turned BeatRanged
leaps on =
    record {
      keeps = beat_clocked on;
      same = λ b k r h. triangle_still_lem on b r k h;
      turns = λ b r h. triangle_turned on b r h;
    }

pub triangle_start : (q : Triangle) → TriangleKept q 0 (triangle_lag (triangle_gate q) (triangle_beat_of q.sequencer) 0)
unfolding triangle_lag triangle_gives
triangle_start q =
    record { beat = triangle_beat_of q.sequencer; at = 0; kept = refl; follows = lag_start (triangle_beat_of q.sequencer) }

module _ (q : Triangle) (r : TriangleRanged q) where
  fine : BeatRanged (triangle_beat_of q.sequencer)
  fine = beat_ranged q.sequencer r.sequencer

  -- its sequencer goes by the beat
  goes : (k : ℕ)
      → iterate (triangle_sequenced (runs q)) k q.sequencer
      ≡ triangle_with_beat q.sequencer (iterate (triangle_beat_clock (triangle_gate q)) k (triangle_beat_of q.sequencer))
  unfolding triangle_gate
  goes k = triangle_beats (runs q) q.sequencer r.sequencer k

  module _ (now : ℕ) (l : TriangleLag) (g : TriangleKept q now l) where
    -- it waits up to its next change
    triangle_waits : (e : ℕ) → now ≤ e → e < l.next → TriangleKept q e l
    triangle_waits e h n = record { beat = g.beat; at = g.at; kept = g.kept; follows = lag_wait g.follows e h n }

    triangle_renewed_lem : (e : ℕ) → now ≤ e → e ≤ l.next → e ≤ forever → TriangleKept q e (triangle_renewed l e)
    unfolding triangle_renewed triangle_lag triangle_gives
    triangle_renewed_lem e h n m = go (eqb l.next e) refl
      where
        go : (t : Bool) → eqb l.next e ≡ t
            → TriangleKept q e (pick t (record { next = e + l.still + 1; position = (l.position + 1) % 32; still = l.still }) l)
        go true d =
            subst (TriangleKept q e) (sym (moved (triangle_gate q) g.beat g.at e l g.kept))
            (record {
              beat = triangle_beat_turned g.beat;
              at = e;
              kept = refl;
              follows = turned_follows (leaps (triangle_gate q)) fine g.follows e (eqb-true _ _ d) m;
            })
        go false d =
            let ne : l.next ≡ e → ⊥ = eqb-false l.next e d in
            triangle_waits e h (omega arith)

    -- at an event at which it is looked at, or isn't due
    pub triangle_kept : (e : ℕ) → now ≤ e → e ≤ l.next → e ≤ forever → (t : Bool) → (t ≡ false → e < l.next)
        → TriangleKept q e (pick t (triangle_renewed l e) l)
    triangle_kept e h n m true w = triangle_renewed_lem e h n m
    triangle_kept e h n m false w = triangle_waits e h (w refl)

    pub triangle_out : (k : ℕ) → now ≤ k → k < l.next
        → triangle_output (with_sequencer q (iterate (triangle_sequenced (runs q)) k q.sequencer)) ≡ triangle_at l.position
    triangle_out k h n =
        ap (λ (x : Sequencer). triangle_output (with_sequencer q x)) (goes k)
        ∙ triangle_gives_at q (iterate (triangle_beat_clock (triangle_gate q)) k (triangle_beat_of q.sequencer))
        ∙ held_gives (leaps (triangle_gate q)) fine g.follows k h n

  -- the closed form of its beat is its sequencer's clocks
  pub triangle_at_lem : (k : ℕ)
      → triangle_with_beat q.sequencer (triangle_beat_advanced (triangle_gate q) k (triangle_beat_of q.sequencer))
      ≡ iterate (triangle_sequenced (runs q)) k q.sequencer
  triangle_at_lem k =
      ap (triangle_with_beat q.sequencer)
      (sym (triangle_beat_closed (triangle_gate q) k (triangle_beat_of q.sequencer) fine.n_from fine.count_from fine.position))
      ∙ sym (goes k)
