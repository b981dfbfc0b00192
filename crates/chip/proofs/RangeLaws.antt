-- The state's range: the test, the facts that it stands for, and that a clock and a step of the frame keep them. Assumes nothing.
use Prim.Native.Nat.{ℕ, ◌%◌, ◌≤◌, ◌<◌}
use mathlib.Core.Path.{◌≡◌, refl}
use mathlib.Core.Bool.{Bool, true, false}
use mathlib.Core.List.{List}
use native.Mathlib.Nat.{mod-lt}
use native.Mathlib.Omega.{arith}
use lib.Dec.{T, leb}
use borrow.Author.Tests.{leb-true}
use lib.ListN.{get_or, length}
use Rattle.arith.specs.Pick.{both}
use Rattle.arith.proofs.PickLaws.{both_left, both_right, both_true, pick_both}
use Rattle.arith.specs.Table.{every}
use Rattle.arith.proofs.TableLaws.{at}
use Rattle.chip_square.proofs.RangeLaws.{SquareRanged, square_in_lem, square_back, square_on_lem, square_timed_lem, square_enveloped_lem, square_swept_lem}
use Rattle.chip_triangle.proofs.RangeLaws.{TriangleRanged, triangle_in_lem, triangle_back, triangle_on_lem, triangle_timed_lem, triangle_linear_lem, triangle_lengthened_lem}
use Rattle.chip_noise.proofs.RangeLaws.{NoiseRanged, noise_in_lem, noise_back, noise_on_lem, noise_timed_kept, noise_enveloped_kept, noise_lengthened_kept}
use Rattle.chip_dmc.proofs.RangeLaws.{DmcRanged, dmc_in_lem, dmc_back, dmc_on_lem, dmc_timed_kept, dmc_read_kept}
use Rattle.chip_frame.specs.Frame.{next_step, frame_due, frame_moved, is_quarter, is_half}
use Rattle.chip_frame.proofs.RangeLaws.{FrameRanged, frame_in_lem, frame_back, frame_on_lem, frame_moved_lem, frame_stepped_lem}
use Rattle.chip_mixer.proofs.LevelLaws.{mixed_most}
use Rattle.chip_tables.specs.Table.{noise_ntsc, noise_pal, dmc_ntsc, dmc_pal, noise_period, dmc_period, noise_top, dmc_top, frame_times}
use Rattle.chip.specs.Clock.{with_frame, timers_clocked, reader_clocked, quarter_frame, half_frame, quarter_if, half_if, stepped, framed, chip_clock}
use Rattle.chip.proofs.MachineLaws.{clocked_machine}
use Rattle.chip.specs.Level.{state_level}
use Rattle.chip.specs.Range.{in_range, power_on, Bytes}
use Rattle.chip.specs.declared.State.{State}

pub record StateRanged (s : State) : Type 0 where
  pub square1 : SquareRanged s.square1
  pub square2 : SquareRanged s.square2
  pub triangle : TriangleRanged s.triangle
  pub noise : NoiseRanged (noise_top s.pal) s.noise
  pub dmc : DmcRanged (dmc_top s.pal) s.dmc
  pub frame : FrameRanged (frame_times s.pal) s.frame

-- THE TEST AND THE FACTS

-- the facts, from the test
pub state_in_lem : (s : State) → in_range s ≡ true → StateRanged s
unfolding in_range
state_in_lem s e = search (both_left, both_right, square_in_lem, triangle_in_lem, noise_in_lem, dmc_in_lem, frame_in_lem (frame_times s.pal))

-- and back
pub state_back : (s : State) → StateRanged s → in_range s ≡ true
unfolding in_range
state_back s h =
    both_true _ _ (square_back s.square1 h.square1)
    (both_true _ _ (square_back s.square2 h.square2)
    (both_true _ _ (triangle_back s.triangle h.triangle)
    (both_true _ _ (noise_back s.noise h.noise)
    (both_true _ _ (dmc_back s.dmc h.dmc) (frame_back (frame_times s.pal) s.frame h.frame)))))

-- PERIODS, FOR EITHER MACHINE
holds : (b : Bool) → T b → b ≡ true
holds true h = refl
holds false h = absurd h

-- an entry of a table of sixteen periods is from 1 to the largest, by one test of the table
period_in : (periods : List ℕ) (top : ℕ) → T (every (λ k x. both (leb 1 x) (leb x top)) 0 periods) → length periods ≡ 16 → (index : ℕ)
    → (1 ≤ get_or periods (index % 16) 0) × (get_or periods (index % 16) 0 ≤ top)
period_in periods top test sixteen index =
    let i : index % 16 < 16 = mod-lt index (omega arith) in
    let x : ℕ = get_or periods (index % 16) 0 in
    let t : both (leb 1 x) (leb x top) ≡ true = holds _ (at (λ k y. both (leb 1 y) (leb y top)) periods test (index % 16) (rw sixteen i)) in
    (leb-true 1 x (both_left _ _ t), leb-true x top (both_right (leb 1 x) _ t))

-- the periods, for either machine
pub noise_period_range : (pal : Bool) (index : ℕ) → (1 ≤ noise_period pal index) × (noise_period pal index ≤ noise_top pal)
unfolding noise_period
noise_period_range true index = period_in noise_pal 3778 tt refl index
noise_period_range false index = period_in noise_ntsc 4068 tt refl index

pub dmc_period_range : (pal : Bool) (index : ℕ) → (1 ≤ dmc_period pal index) × (dmc_period pal index ≤ dmc_top pal)
unfolding dmc_period
dmc_period_range true index = period_in dmc_pal 398 tt refl index
dmc_period_range false index = period_in dmc_ntsc 428 tt refl index

-- POWER-ON IS IN RANGE
pub power_on_in : (pal : Bool) → in_range (power_on pal) ≡ true
unfolding in_range power_on
power_on_in pal =
    both_true _ _ square_on_lem (both_true _ _ square_on_lem (both_true _ _ triangle_on_lem (both_true _ _ (noise_back _ (noise_on_lem (noise_period pal 0) (noise_period_range pal 0).0 (noise_period_range pal 0).1)) (both_true _ _ (dmc_back _ (dmc_on_lem (dmc_period pal 0) (dmc_period_range pal 0).0 (dmc_period_range pal 0).1)) (frame_on_lem (frame_times pal))))))

-- EACH PART OF A CLOCK KEEPS THE RANGE

-- another frame in range
pub frame_put : (s : State) (h : StateRanged s) {f : Rattle.chip_frame.specs.declared.Frame.Frame} → FrameRanged (frame_times s.pal) f → StateRanged (with_frame s f)
frame_put s h r =
    record { square1 = h.square1; square2 = h.square2; triangle = h.triangle; noise = h.noise; dmc = h.dmc; frame = r }

timers_kept : (s : State) → StateRanged s → StateRanged (timers_clocked s)
unfolding timers_clocked
timers_kept s h =
    let n = noise_period_range s.pal s.noise.index in
    let d = dmc_period_range s.pal s.dmc.registers.index in
    record {
      square1 = square_timed_lem s.square1 h.square1;
      square2 = square_timed_lem s.square2 h.square2;
      triangle = triangle_timed_lem s.triangle h.triangle;
      noise = noise_timed_kept (noise_period s.pal s.noise.index) n.0 n.1 s.noise h.noise;
      dmc = dmc_timed_kept (dmc_period s.pal s.dmc.registers.index) d.0 d.1 s.dmc h.dmc;
      frame = h.frame;
    }

reader_kept : (memory : List ℕ) → Bytes memory → (s : State) → StateRanged s → StateRanged (reader_clocked memory s)
unfolding reader_clocked
reader_kept memory b s h =
    record {
      square1 = h.square1;
      square2 = h.square2;
      triangle = h.triangle;
      noise = h.noise;
      dmc = dmc_read_kept memory b s.dmc h.dmc;
      frame = h.frame;
    }

envelopes_kept : (s : State) → StateRanged s → StateRanged (quarter_frame s)
unfolding quarter_frame
envelopes_kept s h =
    record {
      square1 = square_enveloped_lem s.square1 h.square1;
      square2 = square_enveloped_lem s.square2 h.square2;
      triangle = triangle_linear_lem s.triangle h.triangle;
      noise = noise_enveloped_kept s.noise h.noise;
      dmc = h.dmc;
      frame = h.frame;
    }

lengths_kept : (s : State) → StateRanged s → StateRanged (half_frame s)
unfolding half_frame
lengths_kept s h =
    record {
      square1 = square_swept_lem false s.square1 h.square1;
      square2 = square_swept_lem true s.square2 h.square2;
      triangle = triangle_lengthened_lem s.triangle h.triangle;
      noise = noise_lengthened_kept s.noise h.noise;
      dmc = h.dmc;
      frame = h.frame;
    }

pub step_kept : (step : ℕ) (s : State) → StateRanged s → StateRanged (stepped step s)
unfolding stepped
step_kept step s h =
    let quarter : Bool = is_quarter step s.frame in
    let half : Bool = is_half step s.frame in
    let e : StateRanged (quarter_if quarter s) = pick_both StateRanged quarter (envelopes_kept s h) h in
    let l : StateRanged (half_if half (quarter_if quarter s)) = pick_both StateRanged half (lengths_kept (quarter_if quarter s) e) e in
    frame_put _ l (rw (clocked_machine half quarter s).pal (frame_stepped_lem (frame_times s.pal) step s.frame h.frame))

framed_kept : (s : State) → StateRanged s → StateRanged (framed s)
unfolding framed
framed_kept s h =
    let m : StateRanged (with_frame s (frame_moved (frame_times s.pal) s.frame)) = frame_put s h (frame_moved_lem (frame_times s.pal) s.frame h.frame) in
    pick_both StateRanged (frame_due (frame_times s.pal) s.frame) (step_kept (next_step (frame_times s.pal) s.frame) (with_frame s (frame_moved (frame_times s.pal) s.frame)) m) m

-- A CLOCK KEEPS THE RANGE
pub clock_kept : (memory : List ℕ) → Bytes memory → (s : State) → StateRanged s → StateRanged (chip_clock memory s)
unfolding chip_clock
clock_kept memory b s h = framed_kept _ (reader_kept memory b _ (timers_kept s h))

-- THE LEVEL IS AT MOST 32,767
pub level_most : (s : State) → state_level s ≤ 32767
unfolding state_level
level_most s = mixed_most _ _ _ _ _
