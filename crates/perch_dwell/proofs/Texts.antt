-- The lines of the counts, one by one. Assumes nothing.
use Prim.Native.Nat.{ℕ, ◌+◌, ◌≤◌, ◌<◌}
use mathlib.Core.Path.{◌≡◌, refl, sym, ap, ◌∙◌}
use mathlib.Core.List.{List, [], ◌++◌}
use native.Mathlib.Numerals.{add-one}
use native.Mathlib.Omega.{arith}
use borrow.Author.Tests.{eq-eqb, ne_eqb}
use lib.ListN.{length, get_or, drop, length-append, drop_of_length-le}
use lib.Seq.{sets, drop-cons}
use Rattle.text.specs.Ascii.{bytes}
use Rattle.text_print.proofs.StoreLaws.{sets_append}
use Rattle.text_lines.specs.Lines.{pair_line}
use Rattle.text_lines.specs.Puts.{Puts}
use Rattle.perch_dwell.specs.Text.{count_line, counts_text}

-- a line, or none
pub line_none : (level n : ℕ) → n ≡ 0 → count_line level n ≡ []
unfolding count_line
line_none level n h = rw (eq-eqb n 0 h)

pub line_some : (level n : ℕ) → (n ≡ 0 → ⊥) → count_line level n ≡ pair_line (bytes "dmc=") level n
unfolding count_line
line_some level n h = rw (ne_eqb n 0 h)

counts_none : (level : ℕ) → counts_text level [] ≡ []
unfolding counts_text
counts_none level = refl

module _ (s : List ℕ) (i : ℕ) where
  counts_next : i < length s → counts_text i (drop i s) ≡ count_line i (get_or s i 0) ++ counts_text (i + 1) (drop (i + 1) s)
  unfolding counts_text
  counts_next h =
      ap (counts_text i) (drop-cons s i 0 h)
      ∙ ap (λ (k : ℕ). count_line i (get_or s i 0) ++ counts_text (i + 1) (drop k s)) (sym (add-one i))

  -- the next line is put, and what is left behind it makes the whole still
  pub counts_step : i < length s → (out : List ℕ) (place whole : ℕ) (all : List ℕ) → whole ≤ length out
      → place + length (counts_text i (drop i s)) ≡ whole → sets out place (counts_text i (drop i s)) ≡ all
      → (r : ℕ) (out' : List ℕ) → Puts out place (count_line i (get_or s i 0)) out' r
      → (r + length (counts_text (i + 1) (drop (i + 1) s)) ≡ whole) × (sets out' r (counts_text (i + 1) (drop (i + 1) s)) ≡ all)
  counts_step h out place whole all room size left r out' w =
      let one = count_line i (get_or s i 0) in
      let rest = counts_text (i + 1) (drop (i + 1) s) in
      let n = counts_next h in
      let e = ap length n ∙ length-append one rest in
      let p = w (omega arith) in
      let q = p.place in
      (omega arith, rw (p.bytes, p.place) (sets_append one rest out place ∙ (rw n at left)))

  pub counts_end : length s ≤ i → counts_text i (drop i s) ≡ []
  counts_end h = rw (drop_of_length-le s h) (counts_none i)
