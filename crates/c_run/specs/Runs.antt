-- A run at the boundary, on the state that bytes stand for: its answer in one number, the bytes, the words and the counts after it.
use Rattle.std.specs.Prelude.{ℕ, ◌+◌, ◌*◌, ◌^◌, List, eqb, length}
use Rattle.arith.specs.Pick.{pick}
use Rattle.chip.specs.declared.State.{State}
use Rattle.run_answer.specs.Run.{number}
use Rattle.run_answer.specs.declared.Ran.{Ran}
use Rattle.run_dwell.specs.Dwell.{dwell_refusal, run_answer, run_lent}
use Rattle.run_dwell.specs.declared.Counted.{Counted}
use Rattle.c_chip.specs.Boundary.{bytes_after}

-- "for a run number + 2^8 x clocks done + 2^32 x records"
abbrev pub ran_packed : Ran → ℕ
ran_packed r = r.number + 2 ^ 8 * r.done + 2 ^ 32 * r.records

-- 13 "after 3", where the lent counts are no table: "128 counts"
unfoldable pub no_table : List ℕ → State → ℕ → ℕ
no_table memory s count = pick (eqb (number memory s count) 0) 13 (number memory s count)

-- a run on a state with lent counts: 1, then 2, then 3, then 13
unfoldable pub table_answer : List ℕ → State → List ℕ → ℕ → List ℕ → Counted
table_answer memory s counts count words =
    pick (eqb (length counts) 128) (run_answer memory s counts count words) (dwell_refusal (no_table memory s count) s counts)

unfoldable pub table_lent : List ℕ → State → List ℕ → ℕ → List ℕ → List ℕ
table_lent memory s counts count words = pick (eqb (length counts) 128) (run_lent memory s counts count words) words

-- the bytes after it
abbrev pub run_bytes : Ran → List ℕ → List ℕ
run_bytes r b = bytes_after r.number r.state b
