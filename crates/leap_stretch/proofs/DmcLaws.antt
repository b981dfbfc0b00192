-- The DMC as a stretch keeps it. Assumes nothing.
use Rattle.std.proofs.Common.{◌≡◌, ℕ, ◌-◌, ◌<◌, ◌≤◌, Bool, true, false, eqb, List, sym, refl, ◌∙◌, arith, eqb-true}
use borrow.Author.Tests.{eqb-false}
use Rattle.arith.specs.Iterate.{iterate}
use Rattle.arith.specs.Pick.{pick}
use Rattle.leap_still.specs.Forever.{forever}
use Rattle.leap_stretch.specs.Lag.{Follows}
use Rattle.leap_stretch.proofs.LagLaws.{lag_start, lag_to, lag_wait}
use Rattle.chip_dmc.specs.Clock.{dmc_clock, dmc_output}
use Rattle.leap_dmc.specs.Leap.{dmc_still, dmc_turned}
use Rattle.leap_dmc.specs.Lag.{dmc_lag, dmc_renewed, dmc_at}
use Rattle.chip_dmc.specs.declared.Dmc.{Dmc}
use Rattle.leap_dmc.specs.declared.lag.DmcLag.{DmcLag}
use Rattle.chip_dmc.proofs.RangeLaws.{DmcRanged, dmc_clock_kept}
use Rattle.leap_dmc.proofs.LeapLaws.{dmc_closed, dmc_still_lem, dmc_turned_lem}
use Rattle.chip.specs.Range.{Bytes}
use Rattle.leap_stretch.proofs.TurnLaws.{Leaps, held_fine, turned_follows, held_gives}

-- kept at clock `now` of a stretch that began with the DMC d, with its timer's period
pub record DmcKept (memory : List ℕ) (period : ℕ) (d : Dmc) (now : ℕ) (l : DmcLag) : Type 0 where
  pub n : l.n ≡ period
  pub follows : Follows (dmc_clock memory period) dmc_output (dmc_still period) d now l.dmc l.at l.next l.out

pub dmc_start : (memory : List ℕ) (n : ℕ) (d : Dmc) → DmcKept memory n d 0 (dmc_lag n d 0)
unfolding dmc_lag
dmc_start memory n d = record { n = refl; follows = lag_start d }

module _ (memory : List ℕ) (bytes : Bytes memory) (n : ℕ) (from : 1 ≤ n) {top : ℕ} (to : n ≤ top) (d : Dmc) (r : DmcRanged top d) where
  leaps : Leaps (dmc_clock memory n) dmc_output (dmc_still n) (dmc_turned memory n) (DmcRanged top)
  leaps =
      record {
        keeps = dmc_clock_kept memory bytes n from to;
        same = λ x k h m. dmc_still_lem memory n from x h k m;
        turns = λ x h m. dmc_turned_lem memory n from x h m;
      }

  module _ (now : ℕ) (l : DmcLag) (g : DmcKept memory n d now l) where
    pub dmc_renewed_lem : (e : ℕ) → now ≤ e → e ≤ l.next → e ≤ forever → DmcKept memory n d e (dmc_renewed memory l e)
    unfolding dmc_renewed dmc_lag
    dmc_renewed_lem e h q m = go (eqb l.next e) refl
      where
        go : (t : Bool) → eqb l.next e ≡ t
            → DmcKept memory n d e (pick t (dmc_lag l.n (dmc_turned memory l.n l.dmc) e) l)
        go true z =
            rw g.n
            (record { n = refl; follows = turned_follows leaps r g.follows e (eqb-true _ _ z) m })
        go false z =
            let ne : l.next ≡ e → ⊥ = eqb-false l.next e z in
            record { n = g.n; follows = lag_wait g.follows e h (omega arith) }

    pub dmc_out : (k : ℕ) → now ≤ k → k < l.next → dmc_output (iterate (dmc_clock memory n) k d) ≡ l.out
    dmc_out k h q = held_gives leaps r g.follows k h q

    -- its closed form holds up to its next change
    pub dmc_at_lem : (k : ℕ) → now ≤ k → k < l.next → dmc_at l k ≡ iterate (dmc_clock memory n) k d
    unfolding dmc_at
    dmc_at_lem k h q =
        let b = held_fine leaps r g.follows in
        rw g.n
        (sym (dmc_closed memory n from l.dmc b (k - l.at) (omega (arith, g.follows.due))) ∙ lag_to g.follows k (omega (arith, g.follows.begun)))
