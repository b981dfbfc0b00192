-- The DMC goes by itself, and what a walk along its changes holds. Assumes nothing.
--
-- Main definitions: none; a walk is defined in specs/Walk (`Walking`, `Open`).
-- Main statements: `dmc_alone`, the chip's DMC after k clocks is the DMC clocked k times by itself; `walk_start_lem`, `walk_on`, `walk_full`, `walk_end`, what
-- a walk holds at its beginning, at the next change, where a count is full, and at its end; `open_all`, where no count can reach the limit every clock is
-- open; `opened`, a run without counts of the open clocks and the table after those that it did are what the run with counts answers.
use Prim.Native.Nat.{ℕ, zero, suc, ◌+◌, ◌-◌, ◌*◌, ◌≤◌, ◌<◌, min}
use mathlib.Core.Path.{◌≡◌, refl, sym, ap, ◌∙◌}
use mathlib.Core.Bool.{Bool, true, false, not}
use mathlib.Core.Logic.{inl, inr, ⊎_elim}
use mathlib.Core.List.{List}
use native.Mathlib.Nat.{mul-le-mul_right}
use native.Mathlib.Omega.{arith}
use lib.Dec.{leb, ltb}
use lib.ListN.{length, get_or, set}
use borrow.Author.Tests.{leb-true, leb-false, ltb-false}
use Rattle.arith.specs.Iterate.{iterate}
use Rattle.arith.specs.Pick.{pick, both}
use Rattle.arith.proofs.IterateLaws.{iterate_zero, iterate_add, iterate_keeps}
use Rattle.arith.proofs.PickLaws.{pick_both}
use Rattle.leap_still.specs.Forever.{forever}
use Rattle.reading.specs.Counting.{raise}
use Rattle.reading.proofs.CountingLaws.{Most, raise_same, tallied, tallied_none, tallied_length, tallied_most, tallied_stay, Free, Full, free_none, free_stay, free_few, free_less}
use Rattle.chip.specs.Clock.{timers_clocked, reader_clocked, quarter_frame, half_frame, quarter_if, stepped, framed, chip_clock}
use Rattle.chip.specs.Range.{Bytes}
use Rattle.chip.specs.declared.State.{State}
use Rattle.chip.proofs.RangeLaws.{StateRanged, dmc_period_range}
use Rattle.chip.proofs.MachineLaws.{clock_machine}
use Rattle.chip_dmc.specs.Clock.{dmc_timed, dmc_read, dmc_clock, dmc_output}
use Rattle.chip_dmc.specs.declared.Dmc.{Dmc}
use Rattle.chip_dmc.proofs.RangeLaws.{DmcRanged, dmc_clock_kept}
use Rattle.chip_frame.specs.Frame.{frame_due, is_quarter, is_half}
use Rattle.chip_dmc_reader.specs.Reader.{pending}
use Rattle.chip_tables.specs.Table.{dmc_period, dmc_top, frame_times}
use Rattle.leap_dmc.specs.Leap.{output_still, dmc_still, dmc_brink, dmc_turned}
use Rattle.leap_dmc.proofs.LeapLaws.{DmcIdle, idle_still, dmc_still_lem, dmc_turned_lem}
use Rattle.reading.specs.Reading.{start, plain}
use Rattle.reading.proofs.ReadingLaws.{reading_done}
use Rattle.arith.specs.Over.{over}
use Rattle.run_answer.specs.Run.{chip_clockwork, room_of, flat, read_by, answered}
use Rattle.run_answer.specs.declared.Ran.{Ran}
use Rattle.run_dwell.specs.Dwell.{dwell_limit, dwell_by, run_answered}
use Rattle.run_dwell.proofs.DwellLaws.{Given, Owed, owed_free, owed_full}
use Rattle.run_dwell.specs.Kept.{dwell_places}
use Rattle.run_walk.specs.Walk.{last_at, dmc_after, Walking, Open}

-- THE DMC GOES BY ITSELF

envelopes_dmc : (s : State) → (quarter_frame s).dmc ≡ s.dmc
unfolding quarter_frame
envelopes_dmc s = refl

lengths_dmc : (s : State) → (half_frame s).dmc ≡ s.dmc
unfolding half_frame
lengths_dmc s = refl

stepped_dmc : (step : ℕ) (s : State) → (stepped step s).dmc ≡ s.dmc
unfolding stepped
stepped_dmc step s =
    let e : (quarter_if (is_quarter step s.frame) s).dmc ≡ s.dmc = pick_both (λ (x : State). x.dmc ≡ s.dmc) (is_quarter step s.frame) (envelopes_dmc s) refl in
    pick_both (λ (x : State). x.dmc ≡ s.dmc) (is_half step s.frame) (lengths_dmc _ ∙ e) e

framed_dmc : (s : State) → (framed s).dmc ≡ s.dmc
unfolding framed
framed_dmc s = pick_both (λ (x : State). x.dmc ≡ s.dmc) (frame_due (frame_times s.pal) s.frame) (stepped_dmc _ _) refl

before_frame : (memory : List ℕ) (s : State) → (reader_clocked memory (timers_clocked s)).dmc ≡ dmc_clock memory (dmc_period s.pal s.dmc.registers.index) s.dmc
unfolding reader_clocked timers_clocked dmc_clock
before_frame memory s = refl

clock_dmc : (memory : List ℕ) (s : State) → (chip_clock memory s).dmc ≡ dmc_clock memory (dmc_period s.pal s.dmc.registers.index) s.dmc
unfolding chip_clock
clock_dmc memory s = framed_dmc (reader_clocked memory (timers_clocked s)) ∙ before_frame memory s

registers_dmc : (memory : List ℕ) (n : ℕ) (d : Dmc) → (dmc_clock memory n d).registers ≡ d.registers
unfolding dmc_clock dmc_read dmc_timed
registers_dmc memory n d = refl

-- its next change: the clock before it, then the timer, then the reader
pub turned_by : (memory : List ℕ) (n : ℕ) (d : Dmc) → dmc_read memory (dmc_timed n (dmc_brink d)) ≡ dmc_turned memory n d
unfolding dmc_turned dmc_clock
turned_by memory n d = refl

-- the chip's DMC k clocks on
pub dmc_alone : (memory : List ℕ) (k : ℕ) (s : State) → (iterate (chip_clock memory) k s).dmc ≡ dmc_after memory s k
unfolding iterate
dmc_alone memory zero s = refl
dmc_alone memory (suc k) s =
    dmc_alone memory k (chip_clock memory s)
    ∙ rw ((clock_machine memory s).pal, clock_dmc memory s, registers_dmc memory (dmc_period s.pal s.dmc.registers.index) s.dmc) refl

place_alone : (memory : List ℕ) (s : State) (k : ℕ) → dwell_places memory s k ≡ (dmc_after memory s k).output.level
place_alone memory s k = ap (λ (d : Dmc). d.output.level) (dmc_alone memory k s)

-- A DMC THAT IS STILL FOR EVER IS IDLE
tape_short : (timer bits n : ℕ) → timer ≤ 428 → bits ≤ 8 → n ≤ 428 → timer - 1 + (bits - 1) * n < forever
tape_short timer bits n t b h =
    let m : (bits - 1) * n ≤ 7 * n = mul-le-mul_right n (let z : bits - 1 ≤ 7 = omega arith in z) in
    omega arith

forever_idle : (n top : ℕ) (d : Dmc) → n ≤ 428 → top ≤ 428 → DmcRanged top d → forever ≤ dmc_still n d → DmcIdle d
unfolding dmc_still output_still pending
forever_idle n top d h t r = go d.reader.full refl d.output.silence refl (ltb 0 d.reader.remaining) refl
  where
    go : (f : Bool) → d.reader.full ≡ f → (q : Bool) → d.output.silence ≡ q → (m : Bool) → ltb 0 d.reader.remaining ≡ m
        → forever ≤ pick (both (not f) m) 0 (pick q (pick f (d.output.timer - 1 + (d.output.bits - 1) * n) forever) (d.output.timer - 1)) → DmcIdle d
    go false ef true eq false em e = record { silence = eq; full = ef; remaining = let z = ltb-false 0 d.reader.remaining em in omega arith }
    go false ef q eq true em e = absurd (omega arith)
    go false ef false eq false em e = absurd (omega (arith, r.output.timer_to))
    go true ef true eq m em e = absurd (omega (arith, tape_short d.output.timer d.output.bits n (let z = r.output.timer_to in omega arith) r.output.bits_to h))
    go true ef false eq m em e = absurd (omega (arith, r.output.timer_to))

top_low : (pal : Bool) → dmc_top pal ≤ 428
top_low true = omega arith
top_low false = omega arith

-- UP TO WHERE A LEVEL STANDS
pub last_most : (at still count : ℕ) → last_at at still count ≤ count
unfolding last_at
last_most at still count = go (leb forever still)
  where
    go : (t : Bool) → pick t count (min (at + still) count) ≤ count
    go true = omega arith
    go false = omega arith

pub last_least : (at still count : ℕ) → at ≤ count → at ≤ last_at at still count
unfolding last_at
last_least at still count h = go (leb forever still)
  where
    go : (t : Bool) → at ≤ pick t count (min (at + still) count)
    go true = h
    go false = omega arith

module _ (memory : List ℕ) (bytes : Bytes memory) (s : State) (r : StateRanged s) where
  abbrev n : ℕ
  n = dmc_period s.pal s.dmc.registers.index

  from : 1 ≤ n
  from = (dmc_period_range s.pal s.dmc.registers.index).0

  to : n ≤ dmc_top s.pal
  to = (dmc_period_range s.pal s.dmc.registers.index).1

  ranged : (k : ℕ) → DmcRanged (dmc_top s.pal) (dmc_after memory s k)
  ranged k = iterate_keeps (DmcRanged (dmc_top s.pal)) (dmc_clock memory n) (dmc_clock_kept memory bytes n from to) k s.dmc r.dmc

  further : (at g : ℕ) → dmc_after memory s (at + g) ≡ iterate (dmc_clock memory n) g (dmc_after memory s at)
  further at g = iterate_add (dmc_clock memory n) at g s.dmc

  -- the level of the DMC of clock `at` stands up to there
  stands : (at count j : ℕ) → at ≤ j → j ≤ last_at at (dmc_still n (dmc_after memory s at)) count → dwell_places memory s j ≡ (dmc_after memory s at).output.level
  unfolding last_at dmc_output
  stands at count j a b =
      let d = dmc_after memory s at in
      let e : j ≡ at + (j - at) = omega arith in
      place_alone memory s j
      ∙ ap (λ (k : ℕ). (dmc_after memory s k).output.level) e
      ∙ ap (λ (x : Dmc). x.output.level) (further at (j - at))
      ∙ go (leb forever (dmc_still n d)) refl b
    where
      go : (t : Bool) → leb forever (dmc_still n (dmc_after memory s at)) ≡ t → j ≤ pick t count (min (at + dmc_still n (dmc_after memory s at)) count)
          → (iterate (dmc_clock memory n) (j - at) (dmc_after memory s at)).output.level ≡ (dmc_after memory s at).output.level
      go true e h =
          idle_still memory n from (dmc_after memory s at) (ranged at)
          (forever_idle n (dmc_top s.pal) (dmc_after memory s at) (let a = to in let b = top_low s.pal in omega arith) (top_low s.pal) (ranged at) (leb-true _ _ e)) (j - at)
      go false e h = dmc_still_lem memory n from (dmc_after memory s at) (ranged at) (j - at) (omega arith)

  -- and its next change is at the clock behind, if that is one to be worked
  turns : (at count : ℕ) → last_at at (dmc_still n (dmc_after memory s at)) count < count
      → dmc_turned memory n (dmc_after memory s at) ≡ dmc_after memory s (last_at at (dmc_still n (dmc_after memory s at)) count + 1)
  unfolding last_at
  turns at count h = go (leb forever (dmc_still n (dmc_after memory s at))) refl h
    where
      go : (t : Bool) → leb forever (dmc_still n (dmc_after memory s at)) ≡ t → pick t count (min (at + dmc_still n (dmc_after memory s at)) count) < count
          → dmc_turned memory n (dmc_after memory s at) ≡ dmc_after memory s (pick t count (min (at + dmc_still n (dmc_after memory s at)) count) + 1)
      go true e h = absurd (omega arith)
      go false e h =
          let still = dmc_still n (dmc_after memory s at) in
          let k : at + (still + 1) ≡ min (at + still) count + 1 = omega arith in
          sym (dmc_turned_lem memory n from (dmc_after memory s at) (ranged at) (leb-false _ _ e))
          ∙ sym (further at (still + 1))
          ∙ ap (dmc_after memory s) k

  -- A WALK

  -- at its start
  pub walk_start_lem : (counts : List ℕ) (count : ℕ) → length counts ≡ 128 → Most dwell_limit counts → Walking memory s counts count counts s.dmc 0 0
  walk_start_lem counts count size low =
      record {
        size = size;
        low = low;
        most = omega arith;
        is = sym (tallied_none (dwell_places memory s) counts);
        free = free_none dwell_limit (dwell_places memory s) counts;
        dmc = λ h. sym (iterate_zero (dmc_clock memory n) s.dmc);
        near = λ h. (omega arith, omega arith);
      }

  module _ (counts : List ℕ) (count : ℕ) (table : List ℕ) (d : Dmc) (at done : ℕ) (w : Walking memory s counts count table d at done) (b : done < count) where
    pub walk_place : d.output.level ≤ 127
    walk_place = rw (w.dmc b) (ranged at).output.level

    pub walk_size : length table ≡ 128
    walk_size = ap length w.is ∙ tallied_length (dwell_places memory s) done counts ∙ w.size

    pub walk_low : get_or table d.output.level 0 ≤ dwell_limit
    walk_low = rw w.is (tallied_most dwell_limit (dwell_places memory s) done counts w.low w.free d.output.level)

    module _ (last : ℕ) (e : last ≡ last_at at (dmc_still n d) count) where
      pub walk_last : (done ≤ last) × (at ≤ last) × (last ≤ count)
      walk_last =
          let a = w.near b in
          let x = last_least at (dmc_still n d) count (omega arith) in
          let y = last_most at (dmc_still n d) count in
          (omega arith, omega arith, omega arith)

      level_at : (j : ℕ) → done < j → j ≤ last → dwell_places memory s j ≡ d.output.level
      level_at j h k =
          let a = w.near b in
          let z : j ≤ last_at at (dmc_still n (dmc_after memory s at)) count = rw (← w.dmc b, ← e) k in
          stands at count j (omega arith) z ∙ ap (λ (x : Dmc). x.output.level) (sym (w.dmc b))

      module _ (g : ℕ) (few : g ≤ last - done) (fits : get_or table d.output.level 0 + g ≤ dwell_limit) where
        -- g clocks more, all at this level
        pub walk_table : set table d.output.level (get_or table d.output.level 0 + g) ≡ tallied (dwell_places memory s) (done + g) counts
        unfolding raise
        walk_table =
            let a = walk_last in
            let p = walk_place in
            rw w.is (sym (tallied_stay (dwell_places memory s) d.output.level done g counts (omega (arith, w.size)) (λ j h k. level_at j h (omega arith))))

        pub walk_free : Free dwell_limit (dwell_places memory s) (done + g) counts
        walk_free =
            let a = walk_last in
            let p = walk_place in
            free_stay dwell_limit (dwell_places memory s) d.output.level done g counts (omega (arith, w.size)) (λ j h k. level_at j h (omega arith)) (rw (← w.is) fits) w.free

        -- up to where the level stands: on to the next change
        pub walk_on : g ≡ last - done → (next : Dmc) → next ≡ dmc_turned memory n d
            → Walking memory s counts count (set table d.output.level (get_or table d.output.level 0 + g)) next (last + 1) (done + g)
        walk_on z next q =
            let a = walk_last in
            let y : done + g ≡ last = omega arith in
            record {
              size = w.size;
              low = w.low;
              most = omega arith;
              is = walk_table;
              free = walk_free;
              dmc =
                  λ h.
                  let less : last_at at (dmc_still n (dmc_after memory s at)) count < count = rw (← w.dmc b, ← e) (omega arith) in
                  q ∙ ap (dmc_turned memory n) (w.dmc b) ∙ turns at count less ∙ rw (← w.dmc b, ← e) refl;
              near = λ h. (omega arith, omega arith);
            }

        -- or up to where the count is full
        pub walk_full : g < last - done → get_or table d.output.level 0 + g ≡ dwell_limit
            → Open memory s counts count (done + g)
        unfolding Full raise
        walk_full z q =
            let a = walk_last in
            let p = walk_place in
            let here : dwell_places memory s (suc (done + g)) ≡ d.output.level = level_at (suc (done + g)) (omega arith) (omega arith) in
            let top : get_or (tallied (dwell_places memory s) (done + g) counts) d.output.level 0 ≡ dwell_limit =
            ap (λ (x : List ℕ). get_or x d.output.level 0) (sym walk_table) ∙ raise_same d.output.level g table (omega (arith, walk_size)) ∙ q in
            record { most = omega arith; free = walk_free; end = inr (rw (here, top) (omega arith)) }

  -- the end of a walk
  pub walk_end : (counts : List ℕ) (count : ℕ) (table : List ℕ) (d : Dmc) (at done : ℕ) → Walking memory s counts count table d at done → count ≤ done
      → Open memory s counts count done
  walk_end counts count table d at done w h = record { most = w.most; free = w.free; end = inl (let m = w.most in omega arith) }

-- WHERE NO COUNT CAN REACH THE LIMIT, every clock is open
pub open_all : (memory : List ℕ) (s : State) (counts : List ℕ) (count : ℕ) → ((i : ℕ) → get_or counts i 0 + count ≤ dwell_limit) → Open memory s counts count count
open_all memory s counts count h =
    record { most = omega arith; free = free_few dwell_limit (dwell_places memory s) count counts h; end = inl refl }

-- A RUN OF THE OPEN CLOCKS, WITH THE TABLE AFTER THOSE THAT IT DID

ran_most : (memory : List ℕ) (s : State) (k : ℕ) (words : List ℕ) (ran : Ran) → ran ≡ answered 0 s (read_by memory s k words) → ran.done ≤ k
unfolding answered read_by plain
ran_most memory s k words ran e = rw e (let h = reading_done (chip_clockwork memory) k (start (room_of words) s) in omega arith)

pub opened : (memory : List ℕ) (s : State) (counts : List ℕ) (count : ℕ) (words : List ℕ) (k : ℕ) → Open memory s counts count k
    → (ran : Ran) (after : List ℕ) → ran ≡ answered 0 s (read_by memory s k words) → after ≡ over (flat (read_by memory s k words).marks) words
    → (table : List ℕ) → table ≡ tallied (dwell_places memory s) ran.done counts
    → (record { ran = ran; counts = table } ≡ run_answered 0 s counts (dwell_by memory s counts count words))
    × (after ≡ over (flat (dwell_by memory s counts count words).marks) words)
unfolding Given Owed
opened memory s counts count words k o ran after a l table t =
    let free = free_less dwell_limit (dwell_places memory s) k ran.done counts (ran_most memory s k words ran a) o.free in
    ⊎_elim
    (λ e. owed_free memory s counts count words ran table after (rw (← e) (a, l, t)) free)
    (λ full. owed_full memory s counts count words k o.most ran table after (a, l, t) o.free full)
    o.end
