-- Clocks that bring no frame step, channel by channel. Assumes nothing.
use Prim.Native.Nat.{ℕ, zero, suc, ◌≤◌, ◌<◌}
use mathlib.Core.Path.{◌≡◌, refl, sym, ap, ◌∙◌}
use mathlib.Core.Bool.{false}
use mathlib.Core.List.{List}
use native.Mathlib.Omega.{arith}
use native.Mathlib.Numerals.{add-one}
use Rattle.arith.specs.Iterate.{iterate}
use Rattle.arith.proofs.IterateLaws.{iterate_zero, iterate_more, iterate_keeps}
use Rattle.chip_square.specs.Sequencer.{sequencer_clock}
use Rattle.chip_square.specs.Square.{square_timed}
use Rattle.chip_triangle.specs.Triangle.{runs, triangle_sequenced, triangle_timed}
use Rattle.chip_noise.specs.Shifter.{shifter_clock}
use Rattle.chip_noise.specs.Noise.{noise_timed}
use Rattle.chip_dmc.specs.Clock.{dmc_timed, dmc_read, dmc_clock}
use Rattle.chip_frame.specs.Frame.{frame_due, frame_moved}
use Rattle.chip_frame.proofs.RangeLaws.{FrameRanged}
use Rattle.leap_frame.proofs.LeapLaws.{passed_none, passed_due, passed_more}
use Rattle.chip_tables.specs.Table.{noise_period, dmc_period, frame_times}
use Rattle.chip.specs.Clock.{timers_clocked, reader_clocked, framed, chip_clock}
use Rattle.chip_square.specs.declared.Sequencer as square1
use Rattle.chip_triangle.specs.declared.Sequencer as triangle1
use Rattle.chip_noise.specs.declared.Shifter.{Shifter}
use Rattle.chip_dmc.specs.declared.Dmc.{Dmc}
use Rattle.chip_dmc_reader.specs.declared.Registers.{Registers}
use Rattle.chip_frame.specs.declared.Frame.{Frame}
use Rattle.chip.specs.declared.State.{State}
use Rattle.leap_law.specs.Between.{state_with}
use Rattle.leap_law.specs.Frame.{before_step, passed_frame}
use Rattle.leap_law.proofs.FrameLaws.{times_rise}

-- a clock leaves the DMC's registers
registers_kept : (memory : List ℕ) (n : ℕ) (r : Registers) (d : Dmc) → d.registers ≡ r → (dmc_clock memory n d).registers ≡ r
unfolding dmc_clock dmc_read dmc_timed
registers_kept memory n r d e = e

registers_stay : (memory : List ℕ) (n g : ℕ) (d : Dmc) → (iterate (dmc_clock memory n) g d).registers ≡ d.registers
registers_stay memory n g d =
    iterate_keeps (λ (x : Dmc). x.registers ≡ d.registers) (dmc_clock memory n) (λ x e. registers_kept memory n d.registers x e) g d refl

module _ (memory : List ℕ) (s : State) where
  abbrev noise_n : ℕ
  noise_n = noise_period s.pal s.noise.index

  abbrev dmc_n : ℕ
  dmc_n = dmc_period s.pal s.dmc.registers.index

  -- one clock that brings no step
  one : (q1 q2 : square1.Sequencer) (tq : triangle1.Sequencer) (h : Shifter) (d : Dmc) (f : Frame)
      → frame_due (frame_times s.pal) f ≡ false → d.registers ≡ s.dmc.registers
      → chip_clock memory (state_with q1 q2 tq h d f s)
      ≡ state_with (sequencer_clock q1) (sequencer_clock q2) (triangle_sequenced (runs s.triangle) tq) (shifter_clock noise_n s.noise.mode h) (dmc_clock memory dmc_n d) (frame_moved (frame_times s.pal) f) s
  unfolding chip_clock framed reader_clocked timers_clocked state_with square_timed triangle_timed noise_timed dmc_clock runs
  one q1 q2 tq h d f e r = rw (e, r)

  -- g clocks, each channel by itself
  abbrev pub parted : ℕ → State
  parted g =
      state_with (iterate sequencer_clock g s.square1.sequencer) (iterate sequencer_clock g s.square2.sequencer)
      (iterate (triangle_sequenced (runs s.triangle)) g s.triangle.sequencer)
      (iterate (shifter_clock noise_n s.noise.mode) g s.noise.shifter)
      (iterate (dmc_clock memory dmc_n) g s.dmc) (passed_frame g s) s

  start : FrameRanged (frame_times s.pal) s.frame → s ≡ parted 0
  unfolding iterate state_with
  start h = rw (passed_none (frame_times s.pal) s.frame h)

  more : FrameRanged (frame_times s.pal) s.frame → (g : ℕ) → g < before_step s → chip_clock memory (parted g) ≡ parted (suc g)
  more h g few =
      one _ _ _ _ (iterate (dmc_clock memory dmc_n) g s.dmc) (passed_frame g s) (passed_due (frame_times s.pal) (times_rise s.pal) s.frame h g few) (registers_stay memory dmc_n g s.dmc)
      ∙ rw (passed_more (frame_times s.pal) s.frame h g, ← add-one g, iterate_more sequencer_clock g s.square1.sequencer, iterate_more sequencer_clock g s.square2.sequencer, iterate_more (triangle_sequenced (runs s.triangle)) g s.triangle.sequencer, iterate_more (shifter_clock noise_n s.noise.mode) g s.noise.shifter, iterate_more (dmc_clock memory dmc_n) g s.dmc)

  -- CLOCKS THAT BRING NO FRAME STEP ARE EACH CHANNEL'S OWN
  pub between : FrameRanged (frame_times s.pal) s.frame → (g : ℕ) → g ≤ before_step s → iterate (chip_clock memory) g s ≡ parted g
  between h zero l = iterate_zero (chip_clock memory) s ∙ start h
  between h (suc g) l =
      ap (λ (k : ℕ). iterate (chip_clock memory) k s) (sym (add-one g))
      ∙ iterate_more (chip_clock memory) g s
      ∙ ap (chip_clock memory) (between h g (omega arith))
      ∙ more h g (omega arith)
