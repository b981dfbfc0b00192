-- Document 01, "Units", DMC: the output unit with its timer, whose period is an argument, and the moves of the level.
use Rattle.std.specs.Prelude.{ℕ, ◌+◌, ◌-◌, ◌/◌, ◌%◌, Bool, not, leb, ltb, eqb}
use Rattle.arith.specs.Pick.{pick, both}
use Rattle.divider.specs.Divider.{due, tick}
use Rattle.chip_dmc_output.specs.declared.Output.{Output}

-- "bit 0 clear and level above 1 subtracts 2, bit 0 set and level below 126 adds 2"
unfoldable pub level_moved : ℕ → ℕ → ℕ
level_moved byte level =
    pick (eqb (byte % 2) 0) (pick (ltb 1 level) (level - 2) level) (pick (ltb level 126) (level + 2) level)

-- "Timer output: unless silent, [the level moves]; shift right; bits fall by one; at 0, bits 8, and silence if the buffer is empty, else
-- the buffer's byte is copied to the shift byte, its full flag and silence clear" (the full flag: `emptied` of `chip_dmc_reader`)
unfoldable pub output_step : ℕ → Bool → ℕ → Output → Output
output_step n full buffer o =
    record {
      timer = n;
      level = pick o.silence o.level (level_moved o.shift o.level);
      shift = pick (both (due o.bits) full) buffer (o.shift / 2);
      bits = tick 8 o.bits;
      silence = pick (due o.bits) (not full) o.silence;
    }

-- the output unit with another timer count
abbrev pub with_timer : Output → ℕ → Output
with_timer o t = record { timer = t; level = o.level; shift = o.shift; bits = o.bits; silence = o.silence }

-- the timer, of period n, with what it drives
unfoldable pub output_clock : ℕ → Bool → ℕ → Output → Output
output_clock n full buffer o = pick (due o.timer) (output_step n full buffer o) (with_timer o (o.timer - 1))

-- this clock's timer output is the one at which the bits reach 0, and the buffer is used up
abbrev pub takes : Output → Bool
takes o = both (due o.timer) (due o.bits)

-- "timer 1..428, level 0..127, .. shift byte, bits 1..8"; request 9: the timer's range follows the machine's largest period, `top`
unfoldable pub output_in : ℕ → Output → Bool
output_in top o =
    both (both (leb 1 o.timer) (leb o.timer top))
    (both (leb o.level 127) (both (leb o.shift 255) (both (leb 1 o.bits) (leb o.bits 8))))
