-- The table between the clocks of a run. Assumes nothing.
use Prim.Native.Nat.{ℕ, suc, ◌+◌, ◌≤◌, ◌<◌}
use mathlib.Core.Path.{◌≡◌, refl, sym, ap, ◌∙◌}
use mathlib.Core.List.{List}
use native.Mathlib.Numerals.{add-one}
use native.Mathlib.Omega.{arith}
use lib.ListN.{length, get_or, set}
use Rattle.arith.specs.Iterate.{iterate}
use Rattle.arith.proofs.IterateLaws.{iterate_more}
use Rattle.reading.specs.Reading.{plain}
use Rattle.reading.specs.Counting.{raise}
use Rattle.reading.proofs.ReadingLaws.{plain_went}
use Rattle.reading.proofs.CountingLaws.{tallied, tallied_none, tallied_more, tallied_length, Full, free_none, free_more}
use Rattle.chip.specs.Clock.{chip_clock}
use Rattle.chip.specs.Range.{Bytes}
use Rattle.chip.specs.declared.State.{State}
use Rattle.chip.proofs.RangeLaws.{StateRanged, clock_kept}
use Rattle.arith.specs.Over.{over}
use Rattle.run_answer.specs.Run.{chip_clockwork, room_of, flat, read_by, answered}
use Rattle.run_answer.specs.Held.{Held}
use Rattle.run_answer.specs.declared.Ran.{Ran}
use Rattle.run_answer.proofs.RunLaws.{held_ranged, held_end}
use Rattle.run_dwell.specs.Dwell.{dwell_limit, dwell_place, dwell_by, run_answered}
use Rattle.run_dwell.specs.Kept.{dwell_places, Kept}
use Rattle.run_dwell.proofs.DwellLaws.{Given, Owed, owed_free, owed_full}

module _ (memory : List ℕ) (s : State) (counts : List ℕ) where
  -- at the start
  pub kept_start : length counts ≡ 128 → Kept memory s counts 0 counts
  kept_start size = record { size = size; is = sym (tallied_none (dwell_places memory s) counts); free = free_none dwell_limit (dwell_places memory s) counts }

  module _ (words₀ words : List ℕ) (state : State) (done n : ℕ) (h : Held memory s words₀ words state done n) (table : List ℕ) (k : Kept memory s counts done table) where
    -- the table has its places
    pub kept_size : length table ≡ 128
    kept_size = ap length k.is ∙ tallied_length (dwell_places memory s) done counts ∙ k.size

    held_clock : state ≡ iterate (chip_clock memory) done s
    unfolding plain
    held_clock =
        let w = plain_went (chip_clockwork memory) (room_of words₀) done s in
        rw h.read at w

    -- the level after the next clock
    held_place : dwell_place (chip_clock memory state) ≡ dwell_places memory s (suc done)
    held_place = ap (λ (x : State). dwell_place (chip_clock memory x)) held_clock ∙ ap dwell_place (sym (iterate_more (chip_clock memory) done s)) ∙ ap (dwell_places memory s) (add-one done)

    pub place_low : Bytes memory → StateRanged s → dwell_place (chip_clock memory state) ≤ 127
    place_low bytes r = (clock_kept memory bytes state (held_ranged memory s words₀ words state done n h bytes r)).dmc.output.level

    module _ (next : State) (e : next ≡ chip_clock memory state) where
      here : dwell_place next ≡ dwell_places memory s (suc done)
      here = ap dwell_place e ∙ held_place

      -- a clock more, with its count
      pub kept_on : get_or table (dwell_place next) 0 < dwell_limit → Kept memory s counts (done + 1) (set table (dwell_place next) (get_or table (dwell_place next) 0 + 1))
      unfolding raise
      kept_on m =
          let low : get_or (tallied (dwell_places memory s) done counts) (dwell_places memory s (suc done)) 0 + 1 ≤ dwell_limit = rw (← k.is, ← here) (omega arith) in
          record {
            size = k.size;
            is = rw (add-one done, tallied_more (dwell_places memory s) done counts, here, k.is) refl;
            free = rw (add-one done) (free_more dwell_limit (dwell_places memory s) done counts low k.free);
          }

      -- or one that its count stops
      kept_full : dwell_limit ≤ get_or table (dwell_place next) 0 → Full dwell_limit (dwell_places memory s) done counts
      unfolding Full
      kept_full m = rw (← k.is, ← here) (omega arith)

      -- the end at such a clock
      pub kept_stopped : (count : ℕ) → done ≤ count → dwell_limit ≤ get_or table (dwell_place next) 0
          → let r : Ran = record { number = 0; state = state; done = done; records = n } in
          (record { ran = r; counts = table } ≡ run_answered 0 s counts (dwell_by memory s counts count words₀))
          × (words ≡ over (flat (dwell_by memory s counts count words₀).marks) words₀)
      unfolding Given Owed
      kept_stopped count b m =
          let z = held_end memory s words₀ words state done n h done refl in
          owed_full memory s counts count words₀ done b _ table words (z.0, z.1, k.is) k.free (kept_full m)

    -- an end of the run without counts
    pub kept_end : (count : ℕ)
        → (record { number = 0; state = state; done = done; records = n } ≡ answered 0 s (read_by memory s count words₀))
        × (words ≡ over (flat (read_by memory s count words₀).marks) words₀)
        → let r : Ran = record { number = 0; state = state; done = done; records = n } in
        (record { ran = r; counts = table } ≡ run_answered 0 s counts (dwell_by memory s counts count words₀))
        × (words ≡ over (flat (dwell_by memory s counts count words₀).marks) words₀)
    unfolding Given Owed
    kept_end count z = owed_free memory s counts count words₀ _ table words (z.0, z.1, k.is) k.free
