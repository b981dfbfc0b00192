-- The noise in the leap: for how many clocks it surely gives the same, and its timer and register g clocks on and at its next change.
-- That these are clocks of the noise is proved beside them (proofs/LeapLaws).
use Rattle.std.specs.Prelude.{ℕ, zero, suc, ◌+◌, ◌-◌, ◌*◌, ◌/◌, ◌%◌, Bool, eqb}
use Rattle.arith.specs.Bit.{bit_set}
use Rattle.arith.specs.Iterate.{iterate}
use Rattle.arith.specs.Pick.{pick}
use Rattle.divider.specs.Divider.{outputs, count_after}
use Rattle.leap_still.specs.Forever.{forever}
use Rattle.chip_noise.specs.Shifter.{shifted_of}
use Rattle.chip_noise.specs.declared.Shifter.{Shifter}

-- what the noise gives, from what it gives while bit 0 is clear
unfoldable pub shifter_gives : ℕ → Shifter → ℕ
shifter_gives amount h = pick (bit_set h.register 0) 0 amount

-- how many of the k bits above bit 0 are as it is, up to the first that differs: that many outputs leave bit 0
unfoldable pub alike : ℕ → ℕ → ℕ
alike zero r = 0
alike (suc k) r = pick (eqb (r / 2 % 2) (r % 2)) (suc (alike k (r / 2))) 0

-- with an amount of 0 for ever, else up to the clock before the output that may change bit 0
unfoldable pub noise_still : ℕ → ℕ → Shifter → ℕ
noise_still amount n h = pick (eqb amount 0) forever (h.timer - 1 + alike 14 h.register * n)

-- g clocks on: the register output by output
unfoldable pub shifter_advanced : ℕ → Bool → ℕ → Shifter → Shifter
shifter_advanced n mode g h =
    record {
      timer = count_after n h.timer g;
      register = iterate (shifted_of mode) (outputs n h.timer g) h.register;
    }

-- at the next change, with no division
unfoldable pub shifter_turned : ℕ → Bool → Shifter → Shifter
shifter_turned n mode h =
    record { timer = n; register = iterate (shifted_of mode) (suc (alike 14 h.register)) h.register }
