-- The output unit's range: the test, the facts that it stands for, and that a clock keeps it, whatever the largest period. Assumes nothing.
use Prim.Native.Nat.{ℕ, ◌%◌, ◌≤◌}
use mathlib.Core.Path.{◌≡◌}
use mathlib.Core.Bool.{Bool, true}
use native.Mathlib.Omega.{arith}
use lib.Dec.{ltb, eqb}
use borrow.Author.Tests.{leb-true, le-leb, leb-false, ltb-true}
use Rattle.arith.specs.Pick.{both}
use Rattle.arith.proofs.PickLaws.{both_left, both_right, both_true, pick_both, pick_each}
use Rattle.divider.specs.Divider.{due, tick}
use Rattle.divider.proofs.RangeLaws.{tick_ranged}
use Rattle.chip_dmc_output.specs.Output.{level_moved, output_step, output_clock, output_in}
use Rattle.chip_dmc_output.specs.declared.Output.{Output}

pub record OutputRanged (top : ℕ) (o : Output) : Type 0 where
  pub timer_from : 1 ≤ o.timer
  pub timer_to : o.timer ≤ top
  pub level : o.level ≤ 127
  pub shift : o.shift ≤ 255
  pub bits_from : 1 ≤ o.bits
  pub bits_to : o.bits ≤ 8

-- THE TEST AND THE FACTS
pub output_in_lem : {top : ℕ} (o : Output) → output_in top o ≡ true → OutputRanged top o
unfolding output_in
output_in_lem o e = search (both_left, both_right, leb-true)

pub output_back : {top : ℕ} (o : Output) → OutputRanged top o → output_in top o ≡ true
unfolding output_in
output_back o r = search (both_true, le-leb) depth 7

-- A CLOCK KEEPS IT
pub level_moved_most : (byte level : ℕ) → level ≤ 127 → level_moved byte level ≤ 127
unfolding level_moved
level_moved_most byte level h =
    pick_both (λ (x : ℕ). x ≤ 127) (eqb (byte % 2) 0)
    (pick_both (λ (x : ℕ). x ≤ 127) (ltb 1 level) (omega arith) h)
    (pick_each (λ (x : ℕ). x ≤ 127) (ltb level 126) (λ e. omega (arith, ltb-true level 126 e)) (λ e. h))

module _ {top : ℕ} (n : ℕ) (from : 1 ≤ n) (to : n ≤ top) where
  pub output_kept : (full : Bool) (buffer : ℕ) (o : Output) → buffer ≤ 255 → OutputRanged top o
      → OutputRanged top (output_clock n full buffer o)
  unfolding output_clock output_step
  output_kept full buffer o b r =
      pick_each (OutputRanged top) (due o.timer) (λ e. stepped)
      (λ e.
      record {
        timer_from = omega (arith, leb-false o.timer 1 e);
        timer_to = omega (arith, r.timer_to);
        level = r.level;
        shift = r.shift;
        bits_from = r.bits_from;
        bits_to = r.bits_to;
      })
    where
      bits : (1 ≤ tick 8 o.bits) × (tick 8 o.bits ≤ 8)
      bits = tick_ranged 8 o.bits 8 (omega arith) (omega arith) r.bits_to

      stepped : OutputRanged top (output_step n full buffer o)
      stepped =
          record {
            timer_from = from;
            timer_to = to;
            level =
                pick_both (λ (x : ℕ). x ≤ 127) o.silence r.level
                (level_moved_most o.shift o.level r.level);
            shift = pick_both (λ (x : ℕ). x ≤ 255) (both (due o.bits) full) b (omega (arith, r.shift));
            bits_from = bits.0;
            bits_to = bits.1;
          }
