-- THE SUM OF A LOG'S DWELL TABLE IS ITS CLOCKS, and its counts are 128. Assumes nothing.
use Prim.Native.Nat.{ℕ}
use mathlib.Core.Path.{◌≡◌, refl, ◌∙◌}
use mathlib.Core.Bool.{Bool, true, false}
use mathlib.Core.List.{List}
use native.Mathlib.Omega.{arith}
use lib.Dec.{eqb}
use lib.ListN.{length}
use borrow.Author.Tests.{eqb-true}
use Rattle.arith.specs.Pick.{pick}
use Rattle.arith.proofs.PickLaws.{pick_each}
use Rattle.reading.specs.Counting.{sum}
use Rattle.recording.specs.Whole.{machine_of}
use Rattle.log_rules.specs.Tree.{acts, clocks}
use Rattle.recording.specs.Whole.{tree_of, check_of}
use Rattle.log_passing.proofs.ActLaws.{every_acts, clocks_listed}
use Rattle.recording.proofs.Passing.{tree_within}
use Rattle.chip.specs.Range.{power_on}
use Rattle.chip.proofs.RangeLaws.{power_on_in}
use Rattle.chip_api.specs.Answer.{is_memory}
use Rattle.play_begin.specs.Whole.{play_number}
use Rattle.play_dwell.specs.declared.Answer.{Answer}
use Rattle.play_dwell.specs.Dwelling.{no_counts, log_dwell, SumIsClocks}
use Rattle.play_dwell.proofs.CountLaws.{from_length, from_sum}

none_sum : sum no_counts ≡ 0
unfolding sum
none_sum = refl

-- a log that is not refused passes its check
passed : (log memory : List ℕ) → play_number log memory ≡ 0 → (check_of log).number ≡ 0
unfolding play_number
passed log memory e = by (is_memory memory) e
  where
    by : (t : Bool) → pick t (check_of log).number 1 ≡ 0 → (check_of log).number ≡ 0
    by true e = e
    by false e = absurd (let z : ◌≡◌ {A = ℕ} 1 0 = e in omega arith)

pub sum_is_clocks : SumIsClocks
unfolding log_dwell
sum_is_clocks log memory bytes =
    pick_each (λ (a : Answer). sum a.counts ≡ a.clocks) (eqb (play_number log memory) 0)
    (λ e.
    let h = passed log memory (eqb-true _ _ e) in
    let right = every_acts (tree_of log) 0 (tree_within log h) in
    from_sum memory bytes (acts (tree_of log)) (power_on (machine_of log)) no_counts right (power_on_in (machine_of log)) refl
    ∙ omega (arith, none_sum, clocks_listed (tree_of log)))
    (λ e. none_sum)

-- there are 128 of them
pub counts_long : (log memory : List ℕ) → length (log_dwell log memory).counts ≡ 128
unfolding log_dwell
counts_long log memory =
    pick_each (λ (a : Answer). length a.counts ≡ 128) (eqb (play_number log memory) 0)
    (λ e. from_length memory (acts (tree_of log)) (power_on (machine_of log)) no_counts)
    (λ e. refl)
