-- The frame's range: the test, the facts that it stands for, and that every operation keeps them, whatever the times. Assumes nothing.
use Prim.Native.Nat.{ℕ, ◌≤◌, ◌<◌}
use mathlib.Core.Path.{◌≡◌, refl, sym, ap}
use mathlib.Core.Bool.{Bool, true, false, not}
use native.Mathlib.Omega.{arith}
use lib.Dec.{leb}
use borrow.Author.Tests.{leb-true, le-leb, leb-false, not-true}
use Rattle.arith.specs.Pick.{pick, both}
use Rattle.arith.specs.Bit.{bit_set}
use Rattle.arith.proofs.PickLaws.{both_left, both_right, both_true, pick_each}
use Rattle.chip_frame.specs.Frame.{last_number, frame_moved, frame_stepped, frame_written, frame_read, frame_asserts, frame_in, frame_on}
use Rattle.chip_frame.specs.declared.Times.{Times}
use Rattle.chip_frame.specs.declared.Frame.{Frame}

pub record FrameRanged (t : Times) (f : Frame) : Type 0 where
  pub clock : f.clock ≤ last_number t f.mode
  pub flag : both f.disable f.interrupt ≡ false

-- a flag that is set only while disable is clear, one that is cleared with disable set, and one that is clear
set_free : (disable at flag : Bool) → both disable flag ≡ false → both disable (pick (both (not disable) at) true flag) ≡ false
set_free true at flag e = e
set_free false at flag e = refl

cleared_free : (disable flag : Bool) → both disable (pick disable false flag) ≡ false
cleared_free true flag = refl
cleared_free false flag = refl

clear_free : (disable : Bool) → both disable false ≡ false
clear_free true = refl
clear_free false = refl

module _ (t : Times) where
  -- the facts, from the test
  pub frame_in_lem : (f : Frame) → frame_in t f ≡ true → FrameRanged t f
  unfolding frame_in
  frame_in_lem f e = search (both_left, both_right, leb-true, not-true)

  -- and back
  pub frame_back : (f : Frame) → FrameRanged t f → frame_in t f ≡ true
  unfolding frame_in
  frame_back f h = both_true _ _ (le-leb _ _ h.clock) (ap not h.flag)

  -- power-on is in range
  pub frame_on_lem : frame_in t frame_on ≡ true
  frame_on_lem = frame_back frame_on (record { clock = omega arith; flag = refl })

  pub frame_moved_lem : (f : Frame) → FrameRanged t f → FrameRanged t (frame_moved t f)
  unfolding frame_moved
  frame_moved_lem f h =
      record {
        clock =
            pick_each (λ (k : ℕ). k ≤ last_number t f.mode) (leb (last_number t f.mode) f.clock) (λ e. omega arith)
            (λ e. let l : f.clock < last_number t f.mode = leb-false (last_number t f.mode) f.clock e in omega arith);
        flag = h.flag;
      }

  pub frame_stepped_lem : (step : ℕ) (f : Frame) → FrameRanged t f → FrameRanged t (frame_stepped step f)
  unfolding frame_stepped
  frame_stepped_lem step f h = record { clock = h.clock; flag = set_free f.disable _ f.interrupt h.flag }

  pub frame_written_lem : (value : ℕ) (f : Frame) → FrameRanged t (frame_written value f)
  unfolding frame_written
  frame_written_lem value f = record { clock = omega arith; flag = cleared_free (bit_set value 6) f.interrupt }

  pub frame_read_lem : (f : Frame) → FrameRanged t f → FrameRanged t (frame_read f)
  unfolding frame_read
  frame_read_lem f h = record { clock = h.clock; flag = clear_free f.disable }

asserted : (disable flag : Bool) → both disable flag ≡ false → both flag (not disable) ≡ flag
asserted true true e = sym e
asserted true false e = refl
asserted false true e = refl
asserted false false e = refl

-- in range the frame asserts the line exactly where its flag is set
pub asserts_flag : (t : Times) (f : Frame) → FrameRanged t f → frame_asserts f ≡ f.interrupt
unfolding frame_asserts
asserts_flag t f h = asserted f.disable f.interrupt h.flag
