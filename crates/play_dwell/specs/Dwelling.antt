-- Request 1 over a whole log: "Keep 128 counts .., one added at the level's place after each clock done." Clocks are worked one by one.
use Rattle.std.specs.Prelude.{ℕ, zero, suc, ◌≡◌, List, [], ◌∷◌, eqb, replicate}
use Rattle.arith.specs.Iterate.{iterate}
use Rattle.arith.specs.Pick.{pick}
use Rattle.reading.specs.Counting.{raise, sum}
use Rattle.log_line.specs.declared.Act.{Act}
use Rattle.log_line.specs.declared.Act.TheVariants.{Wait, Access}
use Rattle.recording.specs.Whole.{machine_of}
use Rattle.log_rules.specs.Tree.{acts, clocks}
use Rattle.recording.specs.Whole.{tree_of}
use Rattle.chip.specs.Clock.{chip_clock}
use Rattle.chip.specs.Range.{Bytes, power_on}
use Rattle.chip.specs.declared.State.{State}
use Rattle.chip_access.specs.Access.{access_state}
use Rattle.run_dwell.specs.Dwell.{dwell_place}
use Rattle.play_begin.specs.Whole.{play_number, play_place}
use Rattle.play_dwell.specs.declared.Answer.{Answer}

-- the counts after n clocks from the state s on: one added at the DMC level's place after each
unfoldable pub dwelling : List ℕ → ℕ → State → List ℕ → List ℕ
dwelling memory zero s counts = counts
dwelling memory (suc n) s counts = dwelling memory n (chip_clock memory s) (raise (dwell_place (chip_clock memory s)) 1 counts)

-- the counts after a log's acts; an access takes no clock
unfoldable pub dwell_from : List ℕ → List Act → State → List ℕ → List ℕ
dwell_from memory [] s counts = counts
dwell_from memory (Wait n ∷ l) s counts = dwell_from memory l (iterate (chip_clock memory) n s) (dwelling memory n s counts)
dwell_from memory (Access x ∷ l) s counts = dwell_from memory l (access_state x s) counts

-- no clock counted yet
abbrev pub no_counts : List ℕ
no_counts = replicate 128 0

-- THE DWELL TABLE OF A LOG, from power-on of its machine, with its clocks; refused as the player, with neither
unfoldable pub log_dwell : List ℕ → List ℕ → Answer
log_dwell log memory =
    pick (eqb (play_number log memory) 0)
    (record {
      number = 0;
      place = 0;
      clocks = clocks (tree_of log);
      counts = dwell_from memory (acts (tree_of log)) (power_on (machine_of log)) no_counts;
    })
    (record { number = play_number log memory; place = play_place log memory; clocks = 0; counts = no_counts })

-- "and so the sum by the clocks done"
abbrev pub SumIsClocks : Type 0
SumIsClocks = (log memory : List ℕ) → Bytes memory → sum (log_dwell log memory).counts ≡ (log_dwell log memory).clocks
