-- What is written behind a refusal, by its number. Assumes nothing.
use Prim.Native.Nat.{ℕ}
use mathlib.Core.Path.{◌≡◌}
use mathlib.Core.List.{List, []}
use borrow.Author.Tests.{ne_eqb}
use Rattle.text.specs.Ascii.{bytes}
use Rattle.text_lines.specs.Lines.{keyed_line}
use Rattle.log_rules.specs.declared.Checked.{Checked}
use Rattle.log_mend.specs.Mending.{totals_of}
use Rattle.perch_check.specs.Report.{open_line, totals_text, more_text}

module _ (log : List ℕ) (c : Checked) where
  pub more_ten : c.number ≡ 10 → more_text log c ≡ keyed_line (bytes "clocks=") (totals_of log).clocks
  unfolding more_text
  more_ten h = rw h

  pub more_nine : c.number ≡ 9 → more_text log c ≡ totals_text (totals_of log)
  unfolding more_text
  more_nine h = rw h

  pub more_eight : c.number ≡ 8 → more_text log c ≡ keyed_line (bytes "open=") (open_line log c.place)
  unfolding more_text
  more_eight h = rw h

  pub more_none : (c.number ≡ 10 → ⊥) → (c.number ≡ 9 → ⊥) → (c.number ≡ 8 → ⊥) → more_text log c ≡ []
  unfolding more_text
  more_none h i k = rw (ne_eqb _ 10 h, ne_eqb _ 9 i, ne_eqb _ 8 k)
