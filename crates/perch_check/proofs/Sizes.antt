-- How long the text is. Assumes nothing.
use Prim.Native.Nat.{ℕ, ◌+◌, ◌≤◌}
use mathlib.Core.Path.{◌≡◌}
use mathlib.Core.List.{List, ◌++◌}
use mathlib.Core.Bool.{Bool, true, false}
use native.Mathlib.Omega.{arith}
use borrow.Author.Tests.{eq-eqb, ne_eqb}
use lib.Dec.{eqb}
use lib.ListN.{length, take, length-append}
use Rattle.arith.proofs.PickLaws.{pick_both}
use Rattle.text.specs.Ascii.{bytes}
use Rattle.text_print.specs.Printed.{placed, printed}
use Rattle.text_lines.proofs.Pieces.{puts, front}
use Rattle.text_lines.proofs.Sizes.{UpTo, decimal_ten, keyed_size, pair_size}
use Rattle.log_rules.specs.declared.Checked.{Checked}
use Rattle.recording.specs.Whole.{is_file, check_of}
use Rattle.log_mend.specs.Mending.{totals_of}
use Rattle.text_place.specs.Place.{line_number, column}
use Rattle.perch_check.specs.Report.{machine_line, passed_text, reason_line, refused_text, open_line, totals_text, more_text, file_text, failed_text, outcome_text, check_text}
use Rattle.perch_reasons.proofs.Sizes.{reason_size}
use Rattle.text_place.proofs.Sizes.{line_size, mark_size}

machine_size : (pal : Bool) → UpTo 12 (machine_line pal)
unfolding machine_line
machine_size pal = pick_both (UpTo 12) pal (omega arith) (omega arith)

passed_size : (pal : Bool) (clocks turns items : ℕ) → UpTo 72 (passed_text pal clocks turns items)
unfolding passed_text
passed_size pal clocks turns items =
    simp length-append (omega (arith, machine_size pal, keyed_size (bytes "clocks=") clocks, keyed_size (bytes "turns=") turns, keyed_size (bytes "items=") items))

refused_size : (log : List ℕ) (number place : ℕ) → UpTo 640 (refused_text log number place)
unfolding refused_text reason_line
refused_size log number place =
    simp length-append
    (omega (arith, pair_size (bytes "refused=") number place, decimal_ten (line_number log place), decimal_ten (column log place), reason_size number, line_size log place, mark_size log place))

more_size : (log : List ℕ) (c : Checked) → UpTo 35 (more_text log c)
unfolding more_text totals_text
more_size log c =
    let clocks = keyed_size (bytes "clocks=") (totals_of log).clocks in
    let turns = keyed_size (bytes "turns=") (totals_of log).turns in
    let loop = keyed_size (bytes "open=") (open_line log c.place) in
    pick_both (UpTo 35) (eqb c.number 10) (omega arith)
    (pick_both (UpTo 35) (eqb c.number 9) (rw length-append (omega arith)) (pick_both (UpTo 35) (eqb c.number 8) (omega arith) (omega arith)))

file_size : (number place : ℕ) → UpTo 675 (file_text number place)
unfolding file_text
file_size number place = simp length-append (omega (arith, pair_size (bytes "refused=") number place, decimal_ten place, reason_size number))

failed_size : (log : List ℕ) (c : Checked) → UpTo 675 (failed_text log c)
unfolding failed_text
failed_size log c =
    pick_both (UpTo 675) (is_file log) (file_size c.number c.place)
    (rw length-append (omega (arith, refused_size log c.number c.place, more_size log c)))

outcome_size : (log : List ℕ) (c : Checked) → UpTo 675 (outcome_text log c)
unfolding outcome_text
outcome_size log c =
    pick_both (UpTo 675) (eqb c.number 0) (omega (arith, passed_size c.pal c.clocks c.turns c.items))
    (failed_size log c)

-- 700 bytes hold the text about any bytes
pub check_size : (log : List ℕ) → length (check_text log) ≤ 700
unfolding check_text
check_size log = rw length-append (omega (arith, outcome_size log (check_of log)))

-- the two outcomes
module _ (log : List ℕ) (c : Checked) where
  pub text_passed : check_of log ≡ c → c.number ≡ 0 → check_text log ≡ bytes "check=1\n" ++ passed_text c.pal c.clocks c.turns c.items
  unfolding check_text outcome_text
  text_passed e h = rw (e, eq-eqb _ _ h)

  pub text_refused : check_of log ≡ c → (c.number ≡ 0 → ⊥) → check_text log ≡ bytes "check=1\n" ++ failed_text log c
  unfolding check_text outcome_text
  text_refused e h = rw (e, ne_eqb _ _ h)

  -- of a file, or of a log
  pub failed_file : is_file log ≡ true → failed_text log c ≡ file_text c.number c.place
  unfolding failed_text
  failed_file e = rw e

  pub failed_log : is_file log ≡ false → failed_text log c ≡ refused_text log c.number c.place ++ more_text log c
  unfolding failed_text
  failed_log e = rw e

-- what a caller with 700 bytes gets
pub whole_text : (log out : List ℕ) → 700 ≤ length out → (r : ℕ) (out' : List ℕ) → r ≡ placed out 0 (check_text log) → out' ≡ printed out 0 (check_text log)
    → (r ≤ length out') × (take r out' ≡ check_text log)
whole_text log out h r out' p b = let f = front (check_text log) (omega (arith, check_size log)) (puts _ (p, b)) in (f.0, f.2)
