-- A run at the boundary: it does at most 1,000,000 clocks, so that its answer fits one number; its answer and its bytes. Assumes nothing.
use Prim.Native.Nat.{ℕ, zero, suc, ◌≤◌}
use mathlib.Core.Path.{◌≡◌, refl, ap, sym, ◌∙◌}
use mathlib.Core.Bool.{Bool, true, false, false≢true}
use mathlib.Core.Logic.{◌≢◌}
use mathlib.Core.List.{List}
use native.Mathlib.Omega.{arith}
use lib.Dec.{eqb}
use lib.ListN.{length}
use borrow.Author.Tests.{eq-eqb, ne_eqb, eqb-true}
use Rattle.arith.specs.Pick.{pick}
use Rattle.arith.proofs.PickLaws.{pick_both, pick_each}
use Rattle.reading.specs.Reading.{start, plain}
use Rattle.reading.proofs.ReadingLaws.{reading_done}
use Rattle.chip.specs.Range.{in_range}
use Rattle.chip.specs.declared.State.{State}
use Rattle.run_answer.specs.Run.{room_of, number, refusal}
use Rattle.run_answer.specs.declared.Ran.{Ran}
use Rattle.run_answer.proofs.AnswerLaws.{number_fine}
use Rattle.run_dwell.specs.Dwell.{dwell_clockwork, dwell_number, dwell_by, dwell_refusal, run_answered, run_answer, run_lent}
use Rattle.run_dwell.specs.declared.Counted.{Counted}
use Rattle.run_dwell.proofs.DwellLaws.{number_right}
use Rattle.c_state.specs.Bytes.{state_in}
use Rattle.c_state.specs.Encoded.{encoded}
use Rattle.c_run.specs.Runs.{no_table, table_answer, table_lent, run_bytes}
use Rattle.c_counts.specs.Counts.{table_of, counts_after}
use Rattle.c_counts.proofs.CopyLaws.{table_of_lem, counts_after_lem}
use Rattle.c_chip.proofs.StoreLaws.{stored}

-- THE LENT COUNTS

-- 128 of them are a table
pub table_is : (memory : List ℕ) (s : State) (counts : List ℕ) (count : ℕ) (words : List ℕ) → length counts ≡ 128
    → (table_answer memory s counts count words ≡ run_answer memory s counts count words) × (table_lent memory s counts count words ≡ run_lent memory s counts count words)
unfolding table_answer table_lent
table_is memory s counts count words e = rw (eq-eqb _ _ e) (refl, refl)

-- any other number of them is not
pub table_none : (memory : List ℕ) (s : State) (counts : List ℕ) (count : ℕ) (words : List ℕ) → length counts ≢ 128
    → (table_answer memory s counts count words ≡ dwell_refusal (no_table memory s count) s counts) × (table_lent memory s counts count words ≡ words)
unfolding table_answer table_lent
table_none memory s counts count words e = rw (ne_eqb _ _ e) (refl, refl)

-- a run on the table that they are
pub table_ran : (memory : List ℕ) (s : State) (counts : List ℕ) (count : ℕ) (words : List ℕ) → length counts ≡ 128 → (table : List ℕ) → table ≡ table_of counts
    → (r : Counted) (after : List ℕ) → r ≡ run_answer memory s table count words → after ≡ run_lent memory s table count words
    → (kept : List ℕ) → kept ≡ counts_after r.counts counts
    → (r.ran ≡ (table_answer memory s counts count words).ran) × ((after ≡ table_lent memory s counts count words) × (kept ≡ (table_answer memory s counts count words).counts))
table_ran memory s counts count words size table t r after a l kept k =
    let same : table ≡ counts = t ∙ table_of_lem counts size in
    let z = table_is memory s counts count words size in
    let is : r ≡ table_answer memory s counts count words = a ∙ ap (λ (x : List ℕ). run_answer memory s x count words) same ∙ sym z.0 in (
      ap (λ (x : Counted). x.ran) is,
      (
        l ∙ ap (λ (x : List ℕ). run_lent memory s x count words) same ∙ sym z.1,
        k ∙ counts_after_lem r.counts counts size ∙ ap (λ (x : Counted). x.counts) is,
      ),
    )

-- and none
pub table_refused : (memory : List ℕ) (s : State) (counts : List ℕ) (count : ℕ) (words : List ℕ) → length counts ≢ 128 → (n : ℕ) → n ≡ no_table memory s count
    → (ran : Ran) → ran ≡ refusal n s
    → (ran ≡ (table_answer memory s counts count words).ran) × ((words ≡ table_lent memory s counts count words) × (counts ≡ (table_answer memory s counts count words).counts))
table_refused memory s counts count words size n e ran a =
    let z = table_none memory s counts count words size in (
      a ∙ ap (λ (k : ℕ). refusal k s) e ∙ ap (λ (x : Counted). x.ran) (sym z.0),
      (sym z.1, ap (λ (x : Counted). x.counts) (sym z.0)),
    )

-- THE CLOCKS DONE

answer_most : (memory : List ℕ) (s : State) (counts : List ℕ) (count : ℕ) (words : List ℕ) → (run_answer memory s counts count words).ran.done ≤ 1_000_000
unfolding run_answer run_answered dwell_by plain
answer_most memory s counts count words =
    pick_each (λ (r : Counted). r.ran.done ≤ 1_000_000) (eqb (dwell_number memory s counts count) 0)
    (λ e.
    omega (
      arith,
      number_fine memory s count (number_right memory s counts count (eqb-true (dwell_number memory s counts count) 0 e)).0,
      reading_done (dwell_clockwork memory) count (start (room_of words) (record { state = s; counts = counts })),
    ))
    (λ e. omega arith)

pub table_most : (memory : List ℕ) (s : State) (counts : List ℕ) (count : ℕ) (words : List ℕ) → (table_answer memory s counts count words).ran.done ≤ 1_000_000
unfolding table_answer
table_most memory s counts count words =
    pick_both (λ (r : Counted). r.ran.done ≤ 1_000_000) (eqb (length counts) 128) (answer_most memory s counts count words) (omega arith)

-- A RUN IS DONE ONLY ON A STATE IN RANGE

answer_done : (memory : List ℕ) (s : State) (counts : List ℕ) (count : ℕ) (words : List ℕ)
    → eqb (run_answer memory s counts count words).ran.number 0 ≡ true → in_range s ≡ true
unfolding run_answer run_answered
answer_done memory s counts count words e =
    let n = dwell_number memory s counts count in
    (number_fine memory s count (number_right memory s counts count (eqb-true n 0 (by n (eqb n 0) refl _ e))).0).1
  where
    by : (n : ℕ) (t : Bool) → eqb n 0 ≡ t → (r : Counted) → eqb (pick t r (dwell_refusal n s counts)).ran.number 0 ≡ true → eqb n 0 ≡ true
    by n true f r z = f
    by n false f r z = z

-- without a table there is always a refusal
no_table_done : (n : ℕ) → eqb (pick (eqb n 0) 13 n) 0 ≡ false
no_table_done zero = refl
no_table_done (suc n) = let e : eqb (suc n) 0 ≡ false = ne_eqb (suc n) 0 (λ z. omega arith) in simp e

table_done : (memory : List ℕ) (s : State) (counts : List ℕ) (count : ℕ) (words : List ℕ)
    → eqb (table_answer memory s counts count words).ran.number 0 ≡ true → in_range s ≡ true
unfolding table_answer no_table
table_done memory s counts count words =
    pick_both (λ (r : Counted). eqb r.ran.number 0 ≡ true → in_range s ≡ true) (eqb (length counts) 128) (answer_done memory s counts count words)
    (λ e. absurd (false≢true (sym (no_table_done (number memory s count)) ∙ e)))

pub run_stored : (memory b : List ℕ) (count : ℕ) (words counts : List ℕ) (r : Ran) (after : List ℕ) → r ≡ (table_answer memory (state_in b) counts count words).ran
    → after ≡ pick (eqb r.number 0) (encoded r.state b) b → after ≡ run_bytes (table_answer memory (state_in b) counts count words).ran b
run_stored memory b count words counts r after =
    stored (λ (r : Ran). r.number) (λ (r : Ran). r.state) b (table_answer memory (state_in b) counts count words).ran r after
    (table_done memory (state_in b) counts count words)
