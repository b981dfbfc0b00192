-- The noise as a stretch keeps it. Assumes nothing.
use Rattle.std.proofs.Common.{◌≡◌, ℕ, ◌-◌, ◌<◌, ◌≤◌, Bool, true, false, eqb, sym, refl, ◌∙◌, arith, eqb-true}
use borrow.Author.Tests.{eqb-false}
use Rattle.arith.specs.Iterate.{iterate}
use Rattle.arith.specs.Pick.{pick}
use Rattle.leap_still.specs.Forever.{forever}
use Rattle.leap_stretch.specs.Lag.{Follows}
use Rattle.leap_stretch.proofs.LagLaws.{lag_start, lag_to, lag_wait}
use Rattle.chip_noise.specs.Shifter.{shifter_clock}
use Rattle.chip_noise.specs.Noise.{with_shifter, noise_amount, noise_output}
use Rattle.leap_noise.specs.Leap.{shifter_gives, noise_still, shifter_turned}
use Rattle.leap_noise.specs.Lag.{noise_lag, noise_renewed, noise_shifter_at}
use Rattle.chip_noise.specs.declared.Noise.{Noise}
use Rattle.leap_noise.specs.declared.lag.NoiseLag.{NoiseLag}
use Rattle.chip_noise.proofs.RangeLaws.{ShifterRanged, NoiseRanged, shifter_clock_kept}
use Rattle.leap_noise.proofs.LeapLaws.{shifter_closed, noise_still_lem, noise_turned, noise_gives}
use Rattle.leap_stretch.proofs.TurnLaws.{Leaps, held_fine, turned_follows, held_gives}

-- kept at clock `now` of a stretch that began with the noise c, with its timer's period
pub record NoiseKept (period : ℕ) (c : Noise) (now : ℕ) (l : NoiseLag) : Type 0 where
  pub n : l.n ≡ period
  pub mode : l.mode ≡ c.mode
  pub amount : l.amount ≡ noise_amount c
  pub follows :
      Follows (shifter_clock period c.mode) (shifter_gives (noise_amount c)) (noise_still (noise_amount c) period) c.shifter now l.shifter l.at
      l.next l.out

pub noise_start : (n : ℕ) (c : Noise) → NoiseKept n c 0 (noise_lag n c.mode (noise_amount c) c.shifter 0)
unfolding noise_lag
noise_start n c = record { n = refl; mode = refl; amount = refl; follows = lag_start c.shifter }

module _ (n : ℕ) (from : 1 ≤ n) {top : ℕ} (to : n ≤ top) (c : Noise) (r : NoiseRanged top c) where
  leaps : Leaps (shifter_clock n c.mode) (shifter_gives (noise_amount c)) (noise_still (noise_amount c) n) (shifter_turned n c.mode) (ShifterRanged top)
  leaps =
      record {
        keeps = shifter_clock_kept n c.mode from to;
        same = λ x k h m. noise_still_lem n from c.mode (noise_amount c) x h k m;
        turns = λ x h m. noise_turned n from c.mode (noise_amount c) x h m;
      }

  module _ (now : ℕ) (l : NoiseLag) (g : NoiseKept n c now l) where
    pub noise_renewed_lem : (e : ℕ) → now ≤ e → e ≤ l.next → e ≤ forever → NoiseKept n c e (noise_renewed l e)
    unfolding noise_renewed noise_lag
    noise_renewed_lem e h q m = go (eqb l.next e) refl
      where
        go : (t : Bool) → eqb l.next e ≡ t
            → NoiseKept n c e (pick t (noise_lag l.n l.mode l.amount (shifter_turned l.n l.mode l.shifter) e) l)
        go true d =
            rw (g.n, g.mode, g.amount)
            (record {
              n = refl;
              mode = refl;
              amount = refl;
              follows = turned_follows leaps r.shifter g.follows e (eqb-true _ _ d) m;
            })
        go false d =
            let ne : l.next ≡ e → ⊥ = eqb-false l.next e d in
            record { n = g.n; mode = g.mode; amount = g.amount; follows = lag_wait g.follows e h (omega arith) }

    pub noise_out : (k : ℕ) → now ≤ k → k < l.next
        → noise_output (with_shifter c (iterate (shifter_clock n c.mode) k c.shifter)) ≡ l.out
    noise_out k h q =
        noise_gives n c (iterate (shifter_clock n c.mode) k c.shifter) ∙ held_gives leaps r.shifter g.follows k h q

    pub noise_at : (k : ℕ) → now ≤ k → noise_shifter_at l k ≡ iterate (shifter_clock n c.mode) k c.shifter
    unfolding noise_shifter_at
    noise_at k h =
        let b = held_fine leaps r.shifter g.follows in
        rw (g.n, g.mode)
        (sym (shifter_closed n c.mode from (k - l.at) l.shifter b.timer_from) ∙ lag_to g.follows k (omega (arith, g.follows.begun)))
