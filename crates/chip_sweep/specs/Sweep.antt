-- Document 01, "Units": the sweep. P is the field `period`, S the field `shift`; `second` says that it is square 2's.
use Rattle.std.specs.Prelude.{ℕ, ◌+◌, ◌/◌, ◌%◌, ◌^◌, Bool, true, false, not, ℤ, pos, negsuc, ◌+ℤ◌, nat_abs, leb, ltb}
use Rattle.std.specs.Int.Signed.{lt_z}
use Rattle.arith.specs.Pick.{pick, both, either}
use Rattle.arith.specs.Bit.{bit_set}
use Rattle.divider.specs.Divider.{due, tick}
use Rattle.chip_sweep.specs.declared.Sweep.{Sweep}

-- "(period shifted right by S); with negate, square 1 adds the inverted bits, square 2 one more" (n with its bits inverted is -n-1, `negsuc n`)
abbrev pub move_of : Bool → Bool → ℕ → ℤ
move_of second false shifted = pos shifted
move_of false true shifted = negsuc shifted
move_of true true shifted = negsuc shifted +ℤ pos 1

-- "Target = period plus" that: "a signed number, from -1 to 4094"
unfoldable pub target : Bool → Sweep → ℕ → ℤ
target second w period = pos period +ℤ move_of second w.negate (period / 2 ^ w.shift)

-- "Muted when period is below 8 or target above 2047, enabled or not."
unfoldable pub low_period : ℕ → Bool
low_period period = ltb period 8

unfoldable pub high_target : Bool → Sweep → ℕ → Bool
high_target second w period = lt_z (pos 2047) (target second w period)

unfoldable pub muted : Bool → Sweep → ℕ → Bool
muted second w period = either (low_period period) (high_target second w period)

-- "divide by P+1; on output, if enabled, S above 0 and not muted, period becomes target"
unfoldable pub sweeps : Bool → Sweep → ℕ → Bool
sweeps second w period = both (due w.divider) (both w.enable (both (ltb 0 w.shift) (not (muted second w period))))

unfoldable pub swept_period : Bool → Sweep → ℕ → ℕ
swept_period second w period = pick (sweeps second w period) (nat_abs (target second w period)) period

-- P+1 (P is 0..7; any other number is taken by its remainder)
abbrev pub sweep_period : Sweep → ℕ
sweep_period w = w.period % 8 + 1

-- "Then, if its register was written since, reset."
unfoldable pub sweep_clock : Sweep → Sweep
sweep_clock w =
    record {
      enable = w.enable;
      negate = w.negate;
      period = w.period;
      shift = w.shift;
      written = false;
      divider = pick w.written (sweep_period w) (tick (sweep_period w) w.divider);
    }

-- "second sweep enable 7, P 6-4, negate 3, S 2-0, and it sets sweep-written"
unfoldable pub sweep_set : ℕ → Sweep → Sweep
sweep_set value w =
    record {
      enable = bit_set value 7;
      negate = bit_set value 3;
      period = value / 16 % 8;
      shift = value % 8;
      written = true;
      divider = w.divider;
    }

-- "P 0..7, S 0..7, .. sweep divider 1..8"
unfoldable pub sweep_in : Sweep → Bool
sweep_in w = both (leb w.period 7) (both (leb w.shift 7) (both (leb 1 w.divider) (leb w.divider 8)))
