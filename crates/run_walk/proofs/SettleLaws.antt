-- The dwell table of a run, settled at the DMC's changes. Assumes nothing.
--
-- Main definitions: `Gives`, what the DMC gives up to its next change. What a run holds is defined in specs/Settle (`Roomy`, `Settled`).
-- Main statements: `settled_by`, what is settled and what the DMC gives make a stretch's facts; `settle_is`, `settle_fits`, the clocks up to any before the
-- next change, all at one level; `roomy_on`, `tally_on`, `tally_clock`, a stretch and then a clock of a run from its own state are clocks of the run.
use Prim.Native.Nat.{ℕ, zero, suc, ◌+◌, ◌-◌, ◌≤◌, ◌<◌}
use mathlib.Core.Path.{◌≡◌, refl, sym, ap, ◌∙◌}
use mathlib.Core.Bool.{true}
use mathlib.Core.List.{List}
use native.Mathlib.Nat.{add-zero}
use native.Mathlib.Numerals.{add-one}
use native.Mathlib.Omega.{arith}
use lib.ListN.{length, get_or, replicate, length-replicate}
use Rattle.arith.specs.Iterate.{iterate}
use Rattle.arith.proofs.IterateLaws.{iterate_add, iterate_more}
use Rattle.reading.specs.Counting.{raise}
use Rattle.reading.specs.Reading.{plain}
use Rattle.reading.proofs.ReadingLaws.{plain_went}
use Rattle.reading.proofs.CountingLaws.{raise_same, tallied, tallied_more, tallied_length, tallied_alike, tallied_most, tallied_stay, Free, free_alike, free_few, free_less}
use Rattle.chip.specs.Clock.{chip_clock}
use Rattle.chip.specs.Range.{Bytes}
use Rattle.chip.specs.declared.State.{State}
use Rattle.chip.proofs.RangeLaws.{StateRanged, clock_kept}
use Rattle.chip_dmc.specs.Clock.{dmc_output}
use Rattle.chip_dmc.specs.declared.Dmc.{Dmc}
use Rattle.leap_dmc.specs.declared.lag.DmcLag.{DmcLag}
use Rattle.run_answer.specs.Run.{chip_clockwork, room_of}
use Rattle.run_answer.specs.Held.{Held}
use Rattle.run_dwell.specs.Dwell.{dwell_limit, dwell_place, counts_within}
use Rattle.run_dwell.specs.Kept.{dwell_places}
use Rattle.run_dwell.proofs.DwellLaws.{place_in}
use Rattle.run_dwell.proofs.WithinLaws.{within_most}
use Rattle.run_walk.specs.Walk.{dmc_after, Open}
use Rattle.run_walk.specs.Settle.{Roomy, Settled}
use Rattle.run_walk.proofs.WalkLaws.{dmc_alone}

-- what the DMC gives from clock `from` up to its next change
abbrev pub Gives : List ℕ → State → ℕ → DmcLag → Type 0
Gives memory s from d = (j : ℕ) → from ≤ j → j < d.next → dmc_output (dmc_after memory s j) ≡ d.out

-- A STRETCH
module _ (memory : List ℕ) (bytes : Bytes memory) (s : State) (r : StateRanged s) (before table : List ℕ) (d : DmcLag) (settled : ℕ) where
  -- with what the DMC gives from the next clock on, or from one before
  pub settled_by : (from : ℕ) → from ≤ settled + 1 → from < d.next → Gives memory s from d → table ≡ tallied (dwell_places memory s) settled before
      → Settled memory s before table d settled
  unfolding dmc_output
  settled_by from h ahead g e =
      let stands : (j : ℕ) → from ≤ j → j < d.next → dwell_places memory s j ≡ d.out = λ j a b. ap (λ (x : Dmc). x.output.level) (dmc_alone memory j s) ∙ g j a b in
      record {
        is = e;
        stands = λ j a b. stands j (omega arith) b;
        low = rw (← stands from (omega arith) ahead) (place_in memory bytes s r from);
      }

module _ (memory : List ℕ) (s : State) (before table : List ℕ) (end : ℕ) (room : Roomy memory s before end) (d : DmcLag) (settled : ℕ)
    (w : Settled memory s before table d settled) (k : ℕ) (on : settled ≤ k) (to : k < d.next) (few : k ≤ end) where
  here : tallied (dwell_places memory s) (settled + (k - settled)) before ≡ raise d.out (k - settled) (tallied (dwell_places memory s) settled before)
  here = tallied_stay (dwell_places memory s) d.out settled (k - settled) before (omega (arith, room.size, w.low)) (λ j a b. w.stands j a (omega arith))

  -- the clocks up to k, all at one level
  pub settle_is : raise d.out (k - settled) table ≡ tallied (dwell_places memory s) k before
  settle_is = ap (raise d.out (k - settled)) w.is ∙ sym here ∙ ap (λ (x : ℕ). tallied (dwell_places memory s) x before) (omega arith)

  -- their count doesn't reach the limit
  pub settle_fits : get_or table d.out 0 + (k - settled) ≤ dwell_limit
  settle_fits =
      let size : length table ≡ 128 = ap length w.is ∙ tallied_length (dwell_places memory s) settled before ∙ room.size in
      let most = tallied_most dwell_limit (dwell_places memory s) k before room.low (free_less dwell_limit (dwell_places memory s) end k before few room.free) d.out in
      let z : get_or (tallied (dwell_places memory s) k before) d.out 0 ≡ get_or table d.out 0 + (k - settled) =
      ap (λ (x : List ℕ). get_or x d.out 0) (sym settle_is) ∙ raise_same d.out (k - settled) table (omega (arith, size, w.low)) in
      omega (arith, z, most)

-- A TABLE WITH ROOM

zeros : (n i : ℕ) → ◌≡◌ {A = ℕ} (get_or (replicate n 0) i 0) 0
zeros zero i = refl
zeros (suc n) zero = refl
zeros (suc n) (suc i) = zeros n i

-- one that nothing is in yet
pub roomy_none : (memory : List ℕ) (s : State) (k : ℕ) → k ≤ dwell_limit → Roomy memory s (replicate 128 0) k
roomy_none memory s k h =
    record {
      size = length-replicate {A = ℕ} 128 0;
      low = λ i. omega (arith, zeros 128 i);
      free = free_few dwell_limit (dwell_places memory s) k (replicate 128 0) (λ i. omega (arith, zeros 128 i));
    }

-- one that is given, for the clocks that no count stops
pub roomy_open : (memory : List ℕ) (s : State) (counts : List ℕ) (count k : ℕ) → length counts ≡ 128 → counts_within dwell_limit counts ≡ true
    → Open memory s counts count k → Roomy memory s counts k
roomy_open memory s counts count k size low o = record { size = size; low = within_most dwell_limit counts low; free = o.free }

pub roomy_less : (memory : List ℕ) (s : State) (table : List ℕ) (k n : ℕ) → n ≤ k → Roomy memory s table k → Roomy memory s table n
roomy_less memory s table k n h w = record { size = w.size; low = w.low; free = free_less dwell_limit (dwell_places memory s) k n table h w.free }

-- SOME CLOCKS AND THEN MORE
tallied_add : (p : ℕ → ℕ) (k g : ℕ) (cs : List ℕ) → tallied p (k + g) cs ≡ tallied (λ j. p (k + j)) g (tallied p k cs)
unfolding tallied
tallied_add p k zero cs = rw add-zero refl
tallied_add p k (suc g) cs =
    let n : k + suc g ≡ suc (k + g) = omega arith in
    rw (n, tallied_add p k g cs) refl

free_add : (limit : ℕ) (p : ℕ → ℕ) (k g n : ℕ) (cs : List ℕ) → k + g ≤ n → Free limit p n cs → Free limit (λ j. p (k + j)) g (tallied p k cs)
unfolding Free
free_add limit p k g n cs h f j l =
    let z : k + suc j ≡ suc (k + j) = omega arith in
    rw (← tallied_add p k j cs, z) (f (k + j) (omega arith))

module _ (memory : List ℕ) (s : State) (words₀ words : List ℕ) (state : State) (done n : ℕ) (h : Held memory s words₀ words state done n) where
  held_clock : state ≡ iterate (chip_clock memory) done s
  unfolding plain
  held_clock = let w = plain_went (chip_clockwork memory) (room_of words₀) done s in rw h.read at w

  places_on : (j : ℕ) → dwell_places memory s (done + j) ≡ dwell_places memory state j
  places_on j = rw held_clock (ap dwell_place (iterate_add (chip_clock memory) done j s))

  module _ (counts table : List ℕ) (e : table ≡ tallied (dwell_places memory s) done counts) where
    -- the table has room for what is left of the run's clocks
    pub roomy_on : (count k : ℕ) → Roomy memory s counts count → done + k ≤ count → Roomy memory state table k
    roomy_on count k w few =
        rw e
        (record {
          size = tallied_length (dwell_places memory s) done counts ∙ w.size;
          low = tallied_most dwell_limit (dwell_places memory s) done counts w.low (free_less dwell_limit (dwell_places memory s) count done counts (omega arith) w.free);
          free =
              free_alike dwell_limit (λ j. dwell_places memory s (done + j)) (dwell_places memory state) places_on k _
              (free_add dwell_limit (dwell_places memory s) done k count counts few w.free);
        })

    -- a stretch's clocks are the run's
    pub tally_on : (k : ℕ) (after : List ℕ) → after ≡ tallied (dwell_places memory state) k table → after ≡ tallied (dwell_places memory s) (done + k) counts
    tally_on k after q =
        q
        ∙ ap (tallied (dwell_places memory state) k) e
        ∙ sym (tallied_add (dwell_places memory s) done k counts ∙ tallied_alike (λ j. dwell_places memory s (done + j)) (dwell_places memory state) places_on k _)

    module _ (next : State) (q : next ≡ chip_clock memory state) where
      place_next : dwell_place next ≡ dwell_places memory s (suc done)
      place_next = ap dwell_place (q ∙ ap (chip_clock memory) held_clock ∙ sym (iterate_more (chip_clock memory) done s)) ∙ ap (dwell_places memory s) (add-one done)

      -- and so is a clock
      pub tally_clock : raise (dwell_place next) 1 table ≡ tallied (dwell_places memory s) (done + 1) counts
      tally_clock = rw (place_next, e, add-one done) (sym (tallied_more (dwell_places memory s) done counts))

      pub clock_fits : (count : ℕ) → Roomy memory s counts count → done < count → get_or table (dwell_place next) 0 + 1 ≤ dwell_limit
      unfolding Free
      clock_fits count w few = rw (place_next, e) (w.free done few)

      pub clock_low : Bytes memory → StateRanged state → dwell_place next ≤ 127
      clock_low bytes r = rw q (clock_kept memory bytes state r).dmc.output.level
