-- A run with its table, clock by clock. Assumes nothing.
use Prim.Native.Nat.{ℕ, ◌+◌, ◌-◌, ◌≤◌, ◌<◌}
use mathlib.Core.Path.{◌≡◌, refl, sym, ap, ◌∙◌}
use mathlib.Core.Bool.{Bool, true, false}
use mathlib.Core.List.{List}
use native.Mathlib.Decide.{ℕ_discrete}
use native.Mathlib.Omega.{arith}
use lib.Dec.{eqb, ltb}
use lib.ListN.{length, get_or}
use borrow.Author.Tests.{eqb-true, eqb-false, ltb-true}
use Rattle.arith.specs.Pick.{pick, both}
use Rattle.arith.proofs.PickLaws.{both_left, both_right, pick_both}
use Rattle.reading.specs.Counting.{raise}
use Rattle.reading.proofs.CountingLaws.{raise_same, raise_other}
use Rattle.chip.specs.Clock.{chip_clock}
use Rattle.chip.specs.Level.{state_level}
use Rattle.chip.specs.Range.{in_range, Bytes}
use Rattle.chip.proofs.RangeLaws.{state_in_lem}
use Rattle.chip.specs.declared.State.{State}
use Rattle.run_answer.specs.Run.{room_of, stored}
use Rattle.run_answer.specs.Held.{Held}
use Rattle.run_answer.proofs.RunLaws.{held_at, held_start, held_few, held_same, held_mark}
use Rattle.run_dwell.specs.Dwell.{dwell_limit, dwell_place, counts_within}
use Rattle.run_dwell.proofs.WithinLaws.{within_most}
use Rattle.run_dwell.proofs.KeptLaws.{kept_start, kept_size, place_low, kept_on}
use Rattle.run_plain.specs.Going.{Going, Spare}

-- at the start
pub going_start : (memory : List ℕ) (s : State) (counts words : List ℕ) → length counts ≡ 128 → Going memory s counts words words counts s 0 0
going_start memory s counts words size = record { held = held_start memory s words; kept = kept_start memory s counts size }

module _ (memory : List ℕ) (s : State) (counts lent words table : List ℕ) (state : State) (done n : ℕ) (g : Going memory s counts lent words table state done n) where
  pub going_size : length table ≡ 128
  going_size = kept_size memory s counts lent words state done n g.held table g.kept

  pub going_few : n ≤ done
  going_few = held_few memory s lent words state done n g.held

  module _ (next : State) (e : next ≡ chip_clock memory state) where
    -- the next clock's place is one of the table
    pub going_low : Bytes memory → in_range s ≡ true → dwell_place next < length table
    going_low bytes r =
        omega (arith, going_size, ap dwell_place e, place_low memory s counts lent words state done n g.held table g.kept bytes (state_in_lem s r))

    -- a clock more, with its count, and its record where the level is another
    module _ (level was : ℕ) (l : level ≡ state_level next) (w : was ≡ state_level state) (m : n < room_of lent) where
      marked : (t : Bool) → eqb level was ≡ t → Held memory s lent (pick t words (stored words n (done + 1) level)) next (done + 1) (pick t n (n + 1))
      marked true q = held_at (sym e) refl (held_same memory s lent words state done n g.held (ap state_level (sym e) ∙ sym l ∙ eqb-true level was q ∙ w))
      marked false q =
          let h = held_mark memory s lent words state done n g.held (λ z. eqb-false level was q (l ∙ ap state_level e ∙ z ∙ sym w)) m in
          rw (← e, ← l) at h

      pub going_on : get_or table (dwell_place next) 0 < dwell_limit
          → Going memory s counts lent (pick (eqb level was) words (stored words n (done + 1) level)) (raise (dwell_place next) 1 table) next (done + 1) (pick (eqb level was) n (n + 1))
      unfolding raise
      going_on c = record { held = marked (eqb level was) refl; kept = kept_on memory s counts lent words state done n g.held table g.kept next e c }

-- NO COUNT CAN PASS ITS LIMIT

-- where the first table says so
pub spare_start : (counts : List ℕ) (count until : ℕ) → count ≤ 1000000 → until ≡ pick (counts_within (dwell_limit - count) counts) count 0 → Spare until 0 counts
unfolding Spare
spare_start counts count until b e q i = go (counts_within (dwell_limit - count) counts) refl
  where
    go : (t : Bool) → counts_within (dwell_limit - count) counts ≡ t → get_or counts i 0 + until ≤ dwell_limit + 0
    go true w =
        let z : until ≡ count = rw w at e in
        omega (arith, within_most (dwell_limit - count) counts w i)
    go false w =
        let z : until ≡ 0 = rw w at e in
        absurd (omega arith)

pub free_most : (counts : List ℕ) (count until : ℕ) → until ≡ pick (counts_within (dwell_limit - count) counts) count 0 → until ≤ count
free_most counts count until e = rw e (pick_both (λ (x : ℕ). x ≤ count) (counts_within (dwell_limit - count) counts) (omega arith) (omega arith))

raise_few : (p i : ℕ) (cs : List ℕ) → p < length cs → get_or (raise p 1 cs) i 0 ≤ get_or cs i 0 + 1
raise_few p i cs h = go (ℕ_discrete i p)
  where
    go : Dec (i ≡ p) → get_or (raise p 1 cs) i 0 ≤ get_or cs i 0 + 1
    go (yes e) = rw e (omega (arith, raise_same p 1 cs h))
    go (no e) = omega (arith, raise_other p 1 i cs e)

module _ (until done : ℕ) (table : List ℕ) (h : Spare until done table) (b : done < until) (p : ℕ) where
  -- the next clock's count can be raised
  pub spare_low : get_or table p 0 < dwell_limit
  unfolding Spare
  spare_low = omega (arith, h b p)

  -- and then the one after it
  pub spare_on : p < length table → Spare until (done + 1) (raise p 1 table)
  unfolding Spare
  spare_on l q i = omega (arith, h b i, raise_few p i table l)

-- a loop's test
module _ (done until n room : ℕ) (e : both (ltb done until) (ltb n room) ≡ true) where
  pub goes_before : done < until
  goes_before = ltb-true done until (both_left (ltb done until) (ltb n room) e)

  pub goes_room : n < room
  goes_room = ltb-true n room (both_right (ltb done until) (ltb n room) e)
