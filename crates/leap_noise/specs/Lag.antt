-- Between crates: what is kept of the noise in a stretch; that it is the noise at each clock is proved (leap_stretch/proofs/NoiseLaws).
-- The noise as a stretch between two frame steps keeps it: brought up to clock `at` of the stretch, its next possible change, what it gives.
-- n is its timer's period, `amount` what it gives while bit 0 of the shift register is clear.
use Rattle.std.specs.Prelude.{ℕ, ◌+◌, ◌-◌, Bool, eqb}
use Rattle.arith.specs.Pick.{pick}
use Rattle.chip_noise.specs.declared.Shifter.{Shifter}
use Rattle.leap_noise.specs.Leap.{shifter_gives, noise_still, shifter_turned, shifter_advanced}
use Rattle.leap_noise.specs.declared.lag.NoiseLag.{NoiseLag}

unfoldable pub noise_lag : ℕ → Bool → ℕ → Shifter → ℕ → NoiseLag
noise_lag n mode amount h at =
    record {
      shifter = h;
      n = n;
      mode = mode;
      amount = amount;
      at = at;
      next = at + noise_still amount n h + 1;
      out = shifter_gives amount h;
    }

-- at clock e: brought up to it where that is its next change
unfoldable pub noise_renewed : NoiseLag → ℕ → NoiseLag
noise_renewed l e =
    pick (eqb l.next e)
    (noise_lag l.n l.mode l.amount (shifter_turned l.n l.mode l.shifter) e) l

-- what its timer moves, at clock k
unfoldable pub noise_shifter_at : NoiseLag → ℕ → Shifter
noise_shifter_at l k = shifter_advanced l.n l.mode (k - l.at) l.shifter
