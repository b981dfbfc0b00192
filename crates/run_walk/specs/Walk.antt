-- Between crates: the clocks of a run that no count stops, and what the walk that finds them holds between two changes of the DMC (proofs/WalkLaws).
use Rattle.std.specs.Prelude.{ℕ, ◌+◌, ◌≤◌, ◌<◌, min, ◌≡◌, ◌⊎◌, List, leb, length}
use Rattle.arith.specs.Iterate.{iterate}
use Rattle.arith.specs.Pick.{pick}
use Rattle.leap_still.specs.Forever.{forever}
use Rattle.reading.proofs.CountingLaws.{Most, tallied, Free, Full}
use Rattle.chip.specs.declared.State.{State}
use Rattle.chip_dmc.specs.Clock.{dmc_clock}
use Rattle.chip_dmc.specs.declared.Dmc.{Dmc}
use Rattle.chip_tables.specs.Table.{dmc_period}
use Rattle.run_dwell.specs.Dwell.{dwell_limit}
use Rattle.run_dwell.specs.Kept.{dwell_places}

-- the last clock up to `count` before the DMC's next change, `still` clocks behind clock `at`; one that is still for ever has none
unfoldable pub last_at : ℕ → ℕ → ℕ → ℕ
last_at at still count = pick (leb forever still) count (min (at + still) count)

-- the DMC k clocks on from s, by itself
abbrev pub dmc_after : List ℕ → State → ℕ → Dmc
dmc_after memory s k = iterate (dmc_clock memory (dmc_period s.pal s.dmc.registers.index)) k s.dmc

-- `done` clocks of a walk are counted, d is the DMC at clock `at`, whose level stands from the next clock on
pub record Walking (memory : List ℕ) (s : State) (counts : List ℕ) (count : ℕ) (table : List ℕ) (d : Dmc) (at done : ℕ) : Type 0 where
  pub size : length counts ≡ 128
  pub low : Most dwell_limit counts
  pub most : done ≤ count
  pub is : table ≡ tallied (dwell_places memory s) done counts
  pub free : Free dwell_limit (dwell_places memory s) done counts
  pub dmc : done < count → d ≡ dmc_after memory s at
  pub near : done < count → (done ≤ at) × (at ≤ done + 1)

-- k clocks of `count`, all of them or as many as no count stops
pub record Open (memory : List ℕ) (s : State) (counts : List ℕ) (count k : ℕ) : Type 0 where
  pub most : k ≤ count
  pub free : Free dwell_limit (dwell_places memory s) k counts
  pub end : (k ≡ count) ⊎ Full dwell_limit (dwell_places memory s) k counts
