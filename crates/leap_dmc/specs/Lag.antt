-- Between crates: what is kept of the DMC in a stretch; that it is the DMC at each clock is proved (leap_stretch/proofs/DmcLaws).
-- The DMC as a stretch between two frame steps keeps it: brought up to clock `at` of the stretch, its next possible change, what it gives.
-- n is its timer's period.
use Rattle.std.specs.Prelude.{ℕ, ◌+◌, ◌-◌, List, eqb}
use Rattle.arith.specs.Pick.{pick}
use Rattle.chip_dmc.specs.Clock.{dmc_output}
use Rattle.chip_dmc.specs.declared.Dmc.{Dmc}
use Rattle.leap_dmc.specs.Leap.{dmc_still, dmc_turned, dmc_advanced}
use Rattle.leap_dmc.specs.declared.lag.DmcLag.{DmcLag}

unfoldable pub dmc_lag : ℕ → Dmc → ℕ → DmcLag
dmc_lag n d at = record { dmc = d; n = n; at = at; next = at + dmc_still n d + 1; out = dmc_output d }

-- at clock e: brought up to it where that is its next change
unfoldable pub dmc_renewed : List ℕ → DmcLag → ℕ → DmcLag
dmc_renewed memory l e = pick (eqb l.next e) (dmc_lag l.n (dmc_turned memory l.n l.dmc) e) l

-- the DMC at clock k, before its next change
unfoldable pub dmc_at : DmcLag → ℕ → Dmc
dmc_at l k = dmc_advanced l.n (k - l.at) l.dmc
