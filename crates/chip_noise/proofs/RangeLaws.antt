-- The range test and the facts it stands for; power-on is in range, and every operation keeps it, whatever the largest period. Assumes nothing.
use Prim.Native.Nat.{ℕ, ◌-◌, ◌≤◌}
use mathlib.Core.Path.{◌≡◌, refl}
use mathlib.Core.Bool.{Bool, true, false}
use native.Mathlib.Omega.{arith}
use lib.Dec.{leb, eqb}
use borrow.Author.Tests.{leb-true, le-leb, leb-false}
use Rattle.arith.specs.Bit.{bit_set}
use Rattle.arith.specs.Pick.{pick}
use Rattle.arith.proofs.PickLaws.{both_left, both_right, both_true, pick_both}
use Rattle.chip_envelope.proofs.RangeLaws.{EnvelopeRanged, envelope_in_lem, envelope_back, envelope_clocked, envelope_set_lem, envelope_begun_lem, volume_most}
use Rattle.chip_length.proofs.RangeLaws.{LengthRanged, length_in_lem, length_back, length_clocked, length_loaded_lem, length_enabled_lem}
use Rattle.chip_noise.specs.Shifter.{shifted_of, shifter_clock, shifter_in}
use Rattle.chip_noise.specs.Noise.{noise_timed, noise_enveloped, noise_lengthened, noise_enabled, noise_amount, noise_output, noise_write0, noise_write2, noise_write3, noise_write, noise_in, noise_on}
use Rattle.chip_noise.specs.declared.Shifter.{Shifter}
use Rattle.chip_noise.specs.declared.Noise.{Noise}
use Rattle.chip_noise.proofs.ShifterLaws.{shifted_most, shifted_least}

pub record ShifterRanged (top : ℕ) (h : Shifter) : Type 0 where
  pub timer_from : 1 ≤ h.timer
  pub timer_to : h.timer ≤ top
  pub register_from : 1 ≤ h.register
  pub register_to : h.register ≤ 32767

pub record NoiseRanged (top : ℕ) (c : Noise) : Type 0 where
  pub index : c.index ≤ 15
  pub shifter : ShifterRanged top c.shifter
  pub envelope : EnvelopeRanged c.envelope
  pub length : LengthRanged c.length

module _ {top : ℕ} where
  -- THE TEST AND THE FACTS
  shifter_in_lem : (h : Shifter) → shifter_in top h ≡ true → ShifterRanged top h
  unfolding shifter_in
  shifter_in_lem h e = search (both_left, both_right, leb-true)

  shifter_back : (h : Shifter) → ShifterRanged top h → shifter_in top h ≡ true
  unfolding shifter_in
  shifter_back h r = search (both_true, le-leb)

  pub noise_in_lem : (c : Noise) → noise_in top c ≡ true → NoiseRanged top c
  unfolding noise_in
  noise_in_lem c e = search (both_left, both_right, leb-true, shifter_in_lem, envelope_in_lem, length_in_lem)

  pub noise_back : (c : Noise) → NoiseRanged top c → noise_in top c ≡ true
  unfolding noise_in
  noise_back c r =
      both_true _ _ (le-leb _ _ r.index)
      (both_true _ _ (shifter_back _ r.shifter)
      (both_true _ _ (envelope_back _ r.envelope) (length_back _ r.length)))

  -- POWER-ON IS IN RANGE
  pub noise_on_lem : (n : ℕ) → 1 ≤ n → n ≤ top → NoiseRanged top (noise_on n)
  noise_on_lem n from to =
      record {
        index = omega arith;
        shifter =
            record {
              timer_from = from;
              timer_to = to;
              register_from = omega arith;
              register_to = omega arith;
            };
        envelope =
            record { n = omega arith; divider_from = omega arith; divider_to = omega arith; counter = omega arith };
        length = record { count = omega arith; idle = λ e. refl };
      }

  -- what it gives
  noise_amount_most : (c : Noise) → NoiseRanged top c → noise_amount c ≤ 15
  unfolding noise_amount
  noise_amount_most c r =
      pick_both (λ (x : ℕ). x ≤ 15) (eqb c.length.count 0) (omega arith) (volume_most c.envelope r.envelope)

  pub noise_output_most : (c : Noise) → NoiseRanged top c → noise_output c ≤ 15
  unfolding noise_output
  noise_output_most c r =
      pick_both (λ (x : ℕ). x ≤ 15) (bit_set c.shifter.register 0) (omega arith) (noise_amount_most c r)

  -- A CLOCK KEEPS IT
  pub shifter_clock_kept : (n : ℕ) (mode : Bool) → 1 ≤ n → n ≤ top → (h : Shifter) → ShifterRanged top h
      → ShifterRanged top (shifter_clock n mode h)
  unfolding shifter_clock
  shifter_clock_kept n mode from to h r = go (leb h.timer 1) refl
    where
      go : (t : Bool) → leb h.timer 1 ≡ t
          → ShifterRanged top (record { timer = pick t n (h.timer - 1); register = pick t (shifted_of mode h.register) h.register })
      go true e =
          record {
            timer_from = from;
            timer_to = to;
            register_from = shifted_least mode h.register r.register_from r.register_to;
            register_to = shifted_most mode h.register;
          }
      go false e =
          record {
            timer_from = omega (arith, leb-false h.timer 1 e);
            timer_to = omega (arith, r.timer_to);
            register_from = r.register_from;
            register_to = r.register_to;
          }

  pub noise_timed_kept : (n : ℕ) → 1 ≤ n → n ≤ top → (c : Noise) → NoiseRanged top c → NoiseRanged top (noise_timed n c)
  unfolding noise_timed
  noise_timed_kept n from to c r =
      record {
        index = r.index;
        shifter = shifter_clock_kept n c.mode from to c.shifter r.shifter;
        envelope = r.envelope;
        length = r.length;
      }

  -- FRAME CLOCKS KEEP IT
  pub noise_enveloped_kept : (c : Noise) → NoiseRanged top c → NoiseRanged top (noise_enveloped c)
  unfolding noise_enveloped
  noise_enveloped_kept c r =
      record {
        index = r.index;
        shifter = r.shifter;
        envelope = envelope_clocked c.envelope r.envelope;
        length = r.length;
      }

  pub noise_lengthened_kept : (c : Noise) → NoiseRanged top c → NoiseRanged top (noise_lengthened c)
  unfolding noise_lengthened
  noise_lengthened_kept c r =
      record {
        index = r.index;
        shifter = r.shifter;
        envelope = r.envelope;
        length = length_clocked c.envelope.looped c.length r.length;
      }

  -- WRITES KEEP IT
  pub noise_enabled_kept : (on : Bool) (c : Noise) → NoiseRanged top c → NoiseRanged top (noise_enabled on c)
  unfolding noise_enabled
  noise_enabled_kept on c r =
      record {
        index = r.index;
        shifter = r.shifter;
        envelope = r.envelope;
        length = length_enabled_lem on c.length r.length;
      }

  write0_kept : (value : ℕ) (c : Noise) → NoiseRanged top c → NoiseRanged top (noise_write0 value c)
  unfolding noise_write0
  write0_kept value c r =
      record {
        index = r.index;
        shifter = r.shifter;
        envelope = envelope_set_lem value c.envelope r.envelope;
        length = r.length;
      }

  write2_kept : (value : ℕ) (c : Noise) → NoiseRanged top c → NoiseRanged top (noise_write2 value c)
  unfolding noise_write2
  write2_kept value c r =
      record { index = omega arith; shifter = r.shifter; envelope = r.envelope; length = r.length }

  write3_kept : (value : ℕ) (c : Noise) → value ≤ 255 → NoiseRanged top c → NoiseRanged top (noise_write3 value c)
  unfolding noise_write3
  write3_kept value c b r =
      record {
        index = r.index;
        shifter = r.shifter;
        envelope = envelope_begun_lem c.envelope r.envelope;
        length = length_loaded_lem value c.length b r.length;
      }

  pub noise_write_kept : (place value : ℕ) (c : Noise) → value ≤ 255 → NoiseRanged top c → NoiseRanged top (noise_write place value c)
  unfolding noise_write
  noise_write_kept place value c b r =
      pick_both (NoiseRanged top) (eqb place 0) (write0_kept value c r)
      (pick_both (NoiseRanged top) (eqb place 2) (write2_kept value c r)
      (pick_both (NoiseRanged top) (eqb place 3) (write3_kept value c b r) r))
