-- How long the text is: 2,560 bytes always hold it. Assumes nothing.
use Prim.Native.Nat.{ℕ, ◌+◌, ◌*◌, ◌≤◌}
use mathlib.Core.Path.{◌≡◌}
use mathlib.Core.List.{List, [], ◌∷◌, ◌++◌}
use native.Mathlib.Omega.{arith}
use borrow.Author.Tests.{eq-eqb, ne_eqb}
use lib.Dec.{eqb}
use lib.ListN.{length, take, length-append}
use Rattle.arith.proofs.PickLaws.{pick_both}
use Rattle.text.specs.Ascii.{bytes}
use Rattle.text_print.specs.Printed.{printed, placed}
use Rattle.text_lines.specs.Lines.{keyed_line, pair_line, refused_line}
use Rattle.text_lines.proofs.Pieces.{puts, front}
use Rattle.text_lines.proofs.Sizes.{UpTo, decimal_ten, keyed_size, pair_size}
use Rattle.play_text.proofs.TextLaws.{decimal_three}
use Rattle.play_dwell.specs.declared.Answer.{Answer}
use Rattle.play_dwell.specs.Dwelling.{log_dwell}
use Rattle.play_dwell.proofs.Sums.{counts_long}
use Rattle.perch_dwell.specs.Text.{count_line, counts_text, outcome_text, dwell_text}

-- a line has at most 19 bytes: `dmc=127:2000000000`
line_size : (level n : ℕ) → level ≤ 255 → UpTo 19 (count_line level n)
unfolding count_line pair_line
line_size level n h = pick_both (UpTo 19) (eqb n 0) (omega arith) (simp length-append (omega (arith, decimal_three level h, decimal_ten n)))

counts_size : (level : ℕ) (ns : List ℕ) → level + length ns ≤ 256 → UpTo (19 * length ns) (counts_text level ns)
unfolding counts_text
counts_size level [] h = omega arith
counts_size level (n ∷ ns) h = rw length-append (omega (arith, line_size level n (omega arith), counts_size (level + 1) ns (omega arith)))

module _ (a : Answer) where
  outcome_size : length a.counts ≡ 128 → UpTo 2448 (outcome_text a)
  unfolding outcome_text
  outcome_size e =
      pick_both (UpTo 2448) (eqb a.number 0)
      (rw length-append (omega (arith, counts_size 0 a.counts (omega arith), keyed_size (bytes "stop=") a.clocks)))
      (omega (arith, pair_size (bytes "refused=") a.number a.place))

  -- the two outcomes
  pub out_table : a.number ≡ 0 → outcome_text a ≡ counts_text 0 a.counts ++ keyed_line (bytes "stop=") a.clocks
  unfolding outcome_text
  out_table h = rw (eq-eqb a.number 0 h)

  pub out_refused : (a.number ≡ 0 → ⊥) → outcome_text a ≡ refused_line a.number a.place
  unfolding outcome_text
  out_refused h = rw (ne_eqb a.number 0 h)

-- 2,560 bytes hold the text, whatever the bytes
pub dwell_size : (log memory : List ℕ) → length (dwell_text log memory) ≤ 2560
unfolding dwell_text
dwell_size log memory = rw length-append (omega (arith, outcome_size (log_dwell log memory) (counts_long log memory)))

-- what a caller with 2,560 bytes gets
pub whole_text : (log memory out : List ℕ) → 2560 ≤ length out → (r : ℕ) (out' : List ℕ)
    → r ≡ placed out 0 (dwell_text log memory) → out' ≡ printed out 0 (dwell_text log memory) → (r ≤ length out') × (take r out' ≡ dwell_text log memory)
whole_text log memory out h r out' p b = let f = front (dwell_text log memory) (omega (arith, dwell_size log memory)) (puts _ (p, b)) in (f.0, f.2)
