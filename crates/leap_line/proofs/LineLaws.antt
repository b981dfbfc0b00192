-- Each flag and the interrupt line any number of clocks on. Assumes nothing.
use Prim.Native.Nat.{ℕ, zero, suc}
use mathlib.Core.Path.{◌≡◌, refl, ◌∙◌}
use mathlib.Core.Bool.{Bool, true, false}
use mathlib.Core.List.{List}
use Rattle.arith.specs.Iterate.{iterate}
use Rattle.arith.specs.Pick.{pick, either}
use Rattle.chip_frame.specs.Frame.{next_step, frame_due, frame_moved, frame_stepped, frame_asserts, is_quarter, is_half}
use Rattle.chip_dmc.specs.Clock.{dmc_timed, dmc_read, dmc_clock}
use Rattle.chip_tables.specs.Table.{dmc_period, frame_times}
use Rattle.chip.specs.Clock.{with_frame, timers_clocked, reader_clocked, quarter_frame, half_frame, quarter_if, half_if, stepped, framed, chip_clock}
use Rattle.chip.specs.Line.{line_asserted}
use Rattle.chip.specs.Range.{in_range, Bytes}
use Rattle.chip.specs.declared.State.{State}
use Rattle.chip.proofs.MachineLaws.{clock_machine}
use Rattle.chip.proofs.RangeLaws.{StateRanged, state_in_lem, clock_kept, dmc_period_range}
use Rattle.leap_law.proofs.FrameLaws.{times_rise}
use Rattle.leap_line.specs.Until.{frame_flag_until, dmc_flag_until, line_until, within}
use Rattle.leap_line.proofs.CountLaws.{Counts, counts_either, counts_stay, within_none, within_later}
use Rattle.leap_line.proofs.FrameLaws.{frame_next, frame_counts, asserts_counts}
use Rattle.leap_line.proofs.DmcLaws.{dmc_counts, flag_stays}

clocked_dmc : (half quarter : Bool) (s : State) → (half_if half (quarter_if quarter s)).dmc ≡ s.dmc
unfolding half_frame quarter_frame
clocked_dmc true true s = refl
clocked_dmc true false s = refl
clocked_dmc false true s = refl
clocked_dmc false false s = refl

step_dmc : (step : ℕ) (s : State) → (stepped step s).dmc ≡ s.dmc
unfolding stepped
step_dmc step s = clocked_dmc (is_half step s.frame) (is_quarter step s.frame) s

module _ (memory : List ℕ) (s : State) where
  clock_frame : (chip_clock memory s).frame ≡ frame_next (frame_times s.pal) s.frame
  unfolding chip_clock framed reader_clocked timers_clocked stepped
  clock_frame = go (frame_due (frame_times s.pal) s.frame)
    where
      go : (b : Bool) → let x = reader_clocked memory (timers_clocked s) in let t = frame_times s.pal in
          (pick b (stepped (next_step t s.frame) (with_frame x (frame_moved t s.frame))) (with_frame x (frame_moved t s.frame))).frame
          ≡ pick b (frame_stepped (next_step t s.frame) (frame_moved t s.frame)) (frame_moved t s.frame)
      go true = refl
      go false = refl

  clock_dmc : (chip_clock memory s).dmc ≡ dmc_clock memory (dmc_period s.pal s.dmc.registers.index) s.dmc
  unfolding chip_clock framed reader_clocked timers_clocked dmc_clock
  clock_dmc = go (frame_due (frame_times s.pal) s.frame)
    where
      go : (b : Bool) → let x = reader_clocked memory (timers_clocked s) in let t = frame_times s.pal in
          (pick b (stepped (next_step t s.frame) (with_frame x (frame_moved t s.frame))) (with_frame x (frame_moved t s.frame))).dmc ≡ x.dmc
      go true = step_dmc (next_step (frame_times s.pal) s.frame) (with_frame (reader_clocked memory (timers_clocked s)) (frame_moved (frame_times s.pal) s.frame))
      go false = refl

  index_same : (dmc_clock memory (dmc_period s.pal s.dmc.registers.index) s.dmc).registers ≡ s.dmc.registers
  unfolding dmc_clock dmc_read dmc_timed
  index_same = refl

  -- ONE CLOCK: the frame's flag
  pub frame_flag_counts : Counts (frame_flag_until s) s.frame.interrupt (chip_clock memory s).frame.interrupt (frame_flag_until (chip_clock memory s))
  unfolding frame_flag_until
  frame_flag_counts = rw (clock_frame, (clock_machine memory s).pal) (frame_counts (frame_times s.pal) (times_rise s.pal) s.frame)

  frame_asserts_counts : Counts (frame_flag_until s) (frame_asserts s.frame) (frame_asserts (chip_clock memory s).frame) (frame_flag_until (chip_clock memory s))
  unfolding frame_flag_until
  frame_asserts_counts = rw (clock_frame, (clock_machine memory s).pal) (asserts_counts (frame_times s.pal) (times_rise s.pal) s.frame)

  -- the DMC's
  pub dmc_flag_counts : StateRanged s
      → Counts (dmc_flag_until s) s.dmc.reader.interrupt (chip_clock memory s).dmc.reader.interrupt (dmc_flag_until (chip_clock memory s))
  unfolding dmc_flag_until dmc_clock dmc_read dmc_timed
  dmc_flag_counts h =
      rw (clock_dmc, (clock_machine memory s).pal, index_same)
      (dmc_counts memory (dmc_period s.pal s.dmc.registers.index) s.dmc (dmc_period_range s.pal s.dmc.registers.index).0 h.dmc.output.timer_from h.dmc.output.bits_from)

  -- and the line
  pub line_counts : StateRanged s → Counts (line_until s) (line_asserted s) (line_asserted (chip_clock memory s)) (line_until (chip_clock memory s))
  unfolding line_until line_asserted
  line_counts h = counts_either frame_asserts_counts (dmc_flag_counts h)

either_stay : {f f' g g' : Bool} → (f ≡ true → f' ≡ true) → (g ≡ true → g' ≡ true) → either f g ≡ true → either f' g' ≡ true
either_stay {f} {f'} {g} {g'} p q e = go f f' p e
  where
    go : (f f' : Bool) → (f ≡ true → f' ≡ true) → either f g ≡ true → either f' g' ≡ true
    go true f' p e = rw (p refl) refl
    go false true p e = refl
    go false false p e = q e

-- NO CLOCK CLEARS A FLAG, of any state
module _ (memory : List ℕ) (s : State) where
  pub frame_stays : s.frame.interrupt ≡ true → (chip_clock memory s).frame.interrupt ≡ true
  frame_stays = counts_stay (frame_flag_counts memory s)

  pub dmc_stays : s.dmc.reader.interrupt ≡ true → (chip_clock memory s).dmc.reader.interrupt ≡ true
  dmc_stays e = rw (clock_dmc memory s) (flag_stays memory (dmc_period s.pal s.dmc.registers.index) s.dmc e)

  pub line_stays : line_asserted s ≡ true → line_asserted (chip_clock memory s) ≡ true
  unfolding line_asserted
  line_stays = either_stay (counts_stay (frame_asserts_counts memory s)) dmc_stays

as_it_is : (b : Bool) → b ≡ either b false
as_it_is true = refl
as_it_is false = refl

-- what is counted down, g clocks on: as it was, or set since the clock that the count says
module _ (memory : List ℕ) (flag : State → Bool) (until : State → ℕ)
    (counts : (s : State) → StateRanged s → Counts (until s) (flag s) (flag (chip_clock memory s)) (until (chip_clock memory s))) where
  along : Bytes memory → (g : ℕ) (s : State) → StateRanged s → flag (iterate (chip_clock memory) g s) ≡ either (flag s) (within (until s) g)
  unfolding iterate
  along bytes zero s h = rw (within_none (until s)) (as_it_is (flag s))
  along bytes (suc g) s h = along bytes g (chip_clock memory s) (clock_kept memory bytes s h) ∙ within_later g (counts s h)

module _ (memory : List ℕ) (bytes : Bytes memory) (g : ℕ) (s : State) (h : in_range s ≡ true) where
  -- THE FRAME'S FLAG g CLOCKS ON
  pub frame_along : (iterate (chip_clock memory) g s).frame.interrupt ≡ either s.frame.interrupt (within (frame_flag_until s) g)
  frame_along = along memory (λ (x : State). x.frame.interrupt) frame_flag_until (λ x k. frame_flag_counts memory x) bytes g s (state_in_lem s h)

  -- THE DMC'S FLAG
  pub dmc_along : (iterate (chip_clock memory) g s).dmc.reader.interrupt ≡ either s.dmc.reader.interrupt (within (dmc_flag_until s) g)
  dmc_along = along memory (λ (x : State). x.dmc.reader.interrupt) dmc_flag_until (dmc_flag_counts memory) bytes g s (state_in_lem s h)

  -- THE LINE
  pub line_along : line_asserted (iterate (chip_clock memory) g s) ≡ either (line_asserted s) (within (line_until s) g)
  line_along = along memory line_asserted line_until (line_counts memory) bytes g s (state_in_lem s h)
