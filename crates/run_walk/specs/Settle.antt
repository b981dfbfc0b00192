-- Between crates: what a run holds of its dwell table, which it settles at the DMC's changes; proved to be the plain reading's table (proofs/SettleLaws).
use Rattle.std.specs.Prelude.{ℕ, ◌≤◌, ◌<◌, ◌≡◌, List, length}
use Rattle.reading.proofs.CountingLaws.{Most, tallied, Free}
use Rattle.chip.specs.declared.State.{State}
use Rattle.leap_dmc.specs.declared.lag.DmcLag.{DmcLag}
use Rattle.run_dwell.specs.Dwell.{dwell_limit}
use Rattle.run_dwell.specs.Kept.{dwell_places}

-- a table none of whose counts stops one of the next k clocks from s
pub record Roomy (memory : List ℕ) (s : State) (table : List ℕ) (k : ℕ) : Type 0 where
  pub size : length table ≡ 128
  pub low : Most dwell_limit table
  pub free : Free dwell_limit (dwell_places memory s) k table

-- `settled` clocks of a stretch from s are in the table; from the next one on the level is the kept one, up to the DMC's next change
pub record Settled (memory : List ℕ) (s : State) (before table : List ℕ) (d : DmcLag) (settled : ℕ) : Type 0 where
  pub is : table ≡ tallied (dwell_places memory s) settled before
  pub stands : (j : ℕ) → settled < j → j < d.next → dwell_places memory s j ≡ d.out
  pub low : d.out ≤ 127
