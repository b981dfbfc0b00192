-- The triangle's range: the test, the facts that it stands for, and that every operation keeps them. Assumes nothing.
use Prim.Native.Nat.{ℕ, ◌≤◌}
use mathlib.Core.Path.{◌≡◌, refl}
use mathlib.Core.Bool.{Bool, true}
use native.Mathlib.Omega.{arith}
use lib.Dec.{eqb}
use borrow.Author.Tests.{leb-true, le-leb}
use Rattle.arith.specs.Pick.{both}
use Rattle.arith.proofs.PickLaws.{both_left, both_right, both_true, pick_both}
use Rattle.divider.specs.Divider.{due}
use Rattle.chip_timer.proofs.RangeLaws.{TimerRanged, timer_in_lem, timer_back, timer_clocked, period_low_kept, period_high_kept}
use Rattle.chip_length.proofs.RangeLaws.{LengthRanged, length_in_lem, length_back, length_clocked, length_loaded_lem, length_enabled_lem}
use Rattle.chip_linear.proofs.RangeLaws.{LinearRanged, linear_in_lem, linear_back, linear_clocked, linear_set_lem, linear_halted_lem}
use Rattle.chip_triangle.specs.Triangle.{runs, triangle_sequenced, triangle_timed, triangle_linear, triangle_lengthened, triangle_enabled, triangle_sequencer_in, triangle_in, triangle_on}
use Rattle.chip_triangle.specs.Write.{triangle_write0, triangle_write2, triangle_write3, triangle_write}
use Rattle.chip_triangle.specs.declared.Sequencer.{Sequencer}
use Rattle.chip_triangle.specs.declared.Triangle.{Triangle}

pub record SequencerRanged (q : Sequencer) : Type 0 where
  pub timer : TimerRanged q.timer
  pub position : q.position ≤ 31

pub record TriangleRanged (t : Triangle) : Type 0 where
  pub sequencer : SequencerRanged t.sequencer
  pub linear : LinearRanged t.linear
  pub length : LengthRanged t.length

sequencer_in_lem : (q : Sequencer) → triangle_sequencer_in q ≡ true → SequencerRanged q
unfolding triangle_sequencer_in
sequencer_in_lem q e = search (both_left, both_right, leb-true, timer_in_lem)

sequencer_back : (q : Sequencer) → SequencerRanged q → triangle_sequencer_in q ≡ true
unfolding triangle_sequencer_in
sequencer_back q h = both_true _ _ (timer_back q.timer h.timer) (le-leb _ _ h.position)

-- the facts, from the test
pub triangle_in_lem : (t : Triangle) → triangle_in t ≡ true → TriangleRanged t
unfolding triangle_in
triangle_in_lem t e = search (both_left, both_right, sequencer_in_lem, linear_in_lem, length_in_lem)

-- and back
pub triangle_back : (t : Triangle) → TriangleRanged t → triangle_in t ≡ true
unfolding triangle_in
triangle_back t h =
    both_true _ _ (sequencer_back t.sequencer h.sequencer)
    (both_true _ _ (linear_back t.linear h.linear) (length_back t.length h.length))

-- power-on is in range
pub triangle_on_lem : triangle_in triangle_on ≡ true
unfolding triangle_in triangle_sequencer_in Rattle.chip_timer.specs.Timer.timer_in Rattle.chip_linear.specs.Linear.linear_in Rattle.chip_length.specs.Length.length_in
triangle_on_lem = refl

sequencer_clocked : (on : Bool) (q : Sequencer) → SequencerRanged q → SequencerRanged (triangle_sequenced on q)
unfolding triangle_sequenced
sequencer_clocked on q h =
    record {
      timer = timer_clocked q.timer h.timer;
      position = pick_both (λ (k : ℕ). k ≤ 31) (both (due q.timer.count) on) (omega arith) h.position;
    }

pub triangle_timed_lem : (t : Triangle) → TriangleRanged t → TriangleRanged (triangle_timed t)
unfolding triangle_timed
triangle_timed_lem t h =
    record { sequencer = sequencer_clocked (runs t) t.sequencer h.sequencer; linear = h.linear; length = h.length }

pub triangle_linear_lem : (t : Triangle) → TriangleRanged t → TriangleRanged (triangle_linear t)
unfolding triangle_linear
triangle_linear_lem t h = record { sequencer = h.sequencer; linear = linear_clocked t.linear h.linear; length = h.length }

pub triangle_lengthened_lem : (t : Triangle) → TriangleRanged t → TriangleRanged (triangle_lengthened t)
unfolding triangle_lengthened
triangle_lengthened_lem t h =
    record { sequencer = h.sequencer; linear = h.linear; length = length_clocked t.linear.control t.length h.length }

pub triangle_enabled_lem : (on : Bool) (t : Triangle) → TriangleRanged t → TriangleRanged (triangle_enabled on t)
unfolding triangle_enabled
triangle_enabled_lem on t h =
    record { sequencer = h.sequencer; linear = h.linear; length = length_enabled_lem on t.length h.length }

module _ (value : ℕ) (byte : value ≤ 255) (t : Triangle) (h : TriangleRanged t) where
  write0 : TriangleRanged (triangle_write0 value t)
  unfolding triangle_write0
  write0 = record { sequencer = h.sequencer; linear = linear_set_lem value t.linear h.linear; length = h.length }

  write2 : TriangleRanged (triangle_write2 value t)
  unfolding triangle_write2
  write2 =
      record {
        sequencer =
            record {
              timer = period_low_kept value t.sequencer.timer byte h.sequencer.timer;
              position = h.sequencer.position;
            };
        linear = h.linear;
        length = h.length;
      }

  write3 : TriangleRanged (triangle_write3 value t)
  unfolding triangle_write3
  write3 =
      record {
        sequencer =
            record {
              timer = period_high_kept value t.sequencer.timer h.sequencer.timer;
              position = h.sequencer.position;
            };
        linear = linear_halted_lem t.linear h.linear;
        length = length_loaded_lem value t.length byte h.length;
      }

  pub triangle_written : (place : ℕ) → TriangleRanged (triangle_write place value t)
  unfolding triangle_write
  triangle_written place =
      pick_both TriangleRanged (eqb place 0) write0
      (pick_both TriangleRanged (eqb place 2) write2 (pick_both TriangleRanged (eqb place 3) write3 h))
