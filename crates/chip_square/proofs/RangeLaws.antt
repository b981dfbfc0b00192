-- A square's range: the test, the facts that it stands for, and that every operation keeps them. Assumes nothing.
use Prim.Native.Nat.{ℕ, ◌≤◌}
use mathlib.Core.Path.{◌≡◌, refl}
use mathlib.Core.Bool.{Bool, true}
use native.Mathlib.Omega.{arith}
use lib.Dec.{eqb}
use borrow.Author.Tests.{leb-true, le-leb}
use Rattle.arith.specs.Pick.{both}
use Rattle.arith.proofs.PickLaws.{both_left, both_right, both_true, pick_both}
use Rattle.divider.specs.Divider.{due}
use Rattle.chip_sweep.specs.Sweep.{low_period, high_target}
use Rattle.chip_timer.proofs.RangeLaws.{TimerRanged, timer_in_lem, timer_back, timer_clocked, period_low_kept, period_high_kept}
use Rattle.chip_length.proofs.RangeLaws.{LengthRanged, length_in_lem, length_back, length_clocked, length_loaded_lem, length_enabled_lem}
use Rattle.chip_envelope.proofs.RangeLaws.{EnvelopeRanged, envelope_in_lem, envelope_back, envelope_clocked, envelope_set_lem, envelope_begun_lem, volume_most}
use Rattle.chip_sweep.proofs.RangeLaws.{SweepRanged, sweep_in_lem, sweep_back, sweep_clocked, sweep_set_lem, swept_most}
use Rattle.chip_square.specs.Sequencer.{sequencer_clock, duty_bit}
use Rattle.chip_square.specs.Square.{square_timed, square_enveloped, square_swept, square_enabled, square_amount, square_output}
use Rattle.chip_square.specs.Write.{sequencer_low, sequencer_high, square_write0, square_write1, square_write2, square_write3, square_write}
use Rattle.chip_square.specs.Range.{sequencer_in, square_in, square_on}
use Rattle.chip_square.specs.declared.Sequencer.{Sequencer}
use Rattle.chip_square.specs.declared.Square.{Square}

pub record SequencerRanged (q : Sequencer) : Type 0 where
  pub timer : TimerRanged q.timer
  pub position : q.position ≤ 7

pub record SquareRanged (s : Square) : Type 0 where
  pub duty : s.duty ≤ 3
  pub sequencer : SequencerRanged s.sequencer
  pub envelope : EnvelopeRanged s.envelope
  pub sweep : SweepRanged s.sweep
  pub length : LengthRanged s.length

-- THE TEST AND THE FACTS
sequencer_in_lem : (q : Sequencer) → sequencer_in q ≡ true → SequencerRanged q
unfolding sequencer_in
sequencer_in_lem q e = search (both_left, both_right, leb-true, timer_in_lem)

sequencer_back : (q : Sequencer) → SequencerRanged q → sequencer_in q ≡ true
unfolding sequencer_in
sequencer_back q h = both_true _ _ (timer_back q.timer h.timer) (le-leb _ _ h.position)

-- the facts, from the test
pub square_in_lem : (s : Square) → square_in s ≡ true → SquareRanged s
unfolding square_in
square_in_lem s e = search (both_left, both_right, leb-true, sequencer_in_lem, envelope_in_lem, sweep_in_lem, length_in_lem)

-- and back
pub square_back : (s : Square) → SquareRanged s → square_in s ≡ true
unfolding square_in
square_back s h =
    both_true _ _ (le-leb _ _ h.duty)
    (both_true _ _ (sequencer_back s.sequencer h.sequencer)
    (both_true _ _ (envelope_back s.envelope h.envelope)
    (both_true _ _ (sweep_back s.sweep h.sweep) (length_back s.length h.length))))

-- POWER-ON IS IN RANGE
pub square_on_lem : square_in square_on ≡ true
unfolding square_in sequencer_in Rattle.chip_timer.specs.Timer.timer_in Rattle.chip_envelope.specs.Envelope.envelope_in Rattle.chip_sweep.specs.Sweep.sweep_in Rattle.chip_length.specs.Length.length_in
square_on_lem = refl

-- CLOCKS KEEP IT
sequencer_clocked : (q : Sequencer) → SequencerRanged q → SequencerRanged (sequencer_clock q)
unfolding sequencer_clock
sequencer_clocked q h =
    record {
      timer = timer_clocked q.timer h.timer;
      position = pick_both (λ (k : ℕ). k ≤ 7) (both (due q.timer.count) q.half) (omega arith) h.position;
    }

pub square_timed_lem : (s : Square) → SquareRanged s → SquareRanged (square_timed s)
unfolding square_timed
square_timed_lem s h =
    record {
      duty = h.duty;
      sequencer = sequencer_clocked s.sequencer h.sequencer;
      envelope = h.envelope;
      sweep = h.sweep;
      length = h.length;
    }

pub square_enveloped_lem : (s : Square) → SquareRanged s → SquareRanged (square_enveloped s)
unfolding square_enveloped
square_enveloped_lem s h =
    record {
      duty = h.duty;
      sequencer = h.sequencer;
      envelope = envelope_clocked s.envelope h.envelope;
      sweep = h.sweep;
      length = h.length;
    }

pub square_swept_lem : (second : Bool) (s : Square) → SquareRanged s → SquareRanged (square_swept second s)
unfolding square_swept
square_swept_lem second s h =
    let t = h.sequencer.timer in
    record {
      duty = h.duty;
      sequencer =
          record {
            timer =
                record {
                  period = swept_most second s.sweep s.sequencer.timer.period t.period;
                  count_from = t.count_from;
                  count_to = t.count_to;
                };
            position = h.sequencer.position;
          };
      envelope = h.envelope;
      sweep = sweep_clocked s.sweep h.sweep;
      length = length_clocked s.envelope.looped s.length h.length;
    }

-- WRITES KEEP IT
pub square_enabled_lem : (on : Bool) (s : Square) → SquareRanged s → SquareRanged (square_enabled on s)
unfolding square_enabled
square_enabled_lem on s h =
    record {
      duty = h.duty;
      sequencer = h.sequencer;
      envelope = h.envelope;
      sweep = h.sweep;
      length = length_enabled_lem on s.length h.length;
    }

module _ (value : ℕ) (byte : value ≤ 255) (s : Square) (h : SquareRanged s) where
  write0 : SquareRanged (square_write0 value s)
  unfolding square_write0
  write0 =
      record {
        duty = omega arith;
        sequencer = h.sequencer;
        envelope = envelope_set_lem value s.envelope h.envelope;
        sweep = h.sweep;
        length = h.length;
      }

  write1 : SquareRanged (square_write1 value s)
  unfolding square_write1
  write1 =
      record {
        duty = h.duty;
        sequencer = h.sequencer;
        envelope = h.envelope;
        sweep = sweep_set_lem value s.sweep h.sweep;
        length = h.length;
      }

  write2 : SquareRanged (square_write2 value s)
  unfolding square_write2 sequencer_low
  write2 =
      record {
        duty = h.duty;
        sequencer =
            record {
              timer = period_low_kept value s.sequencer.timer byte h.sequencer.timer;
              position = h.sequencer.position;
            };
        envelope = h.envelope;
        sweep = h.sweep;
        length = h.length;
      }

  write3 : SquareRanged (square_write3 value s)
  unfolding square_write3 sequencer_high
  write3 =
      record {
        duty = h.duty;
        sequencer =
            record {
              timer = period_high_kept value s.sequencer.timer h.sequencer.timer;
              position = omega arith;
            };
        envelope = envelope_begun_lem s.envelope h.envelope;
        sweep = h.sweep;
        length = length_loaded_lem value s.length byte h.length;
      }

  pub square_written : (place : ℕ) → SquareRanged (square_write place value s)
  unfolding square_write
  square_written place =
      pick_both SquareRanged (eqb place 0) write0
      (pick_both SquareRanged (eqb place 1) write1 (pick_both SquareRanged (eqb place 2) write2 write3))

-- WHAT IT GIVES IS AT MOST 15
pub square_output_most : (second : Bool) (s : Square) → SquareRanged s → square_output second s ≤ 15
unfolding square_output square_amount
square_output_most second s h =
    let P : ℕ → Type 0 = λ k. k ≤ 15 in
    pick_both P (eqb (duty_bit s.duty s.sequencer.position) 1)
    (pick_both P (eqb s.length.count 0) (omega arith)
    (pick_both P (low_period s.sequencer.timer.period) (omega arith)
    (pick_both P (high_target second s.sweep s.sequencer.timer.period) (omega arith) (volume_most s.envelope h.envelope))))
    (omega arith)
