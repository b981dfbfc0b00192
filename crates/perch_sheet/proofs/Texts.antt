-- The text by the answer of `chip_sheet::sheet`, and the lines one by one. Assumes nothing.
use Prim.Native.Nat.{ℕ, ◌+◌, ◌≤◌, ◌<◌}
use mathlib.Core.Path.{◌≡◌, refl, sym, ap, ◌∙◌}
use mathlib.Core.List.{List, [], ◌++◌}
use native.Mathlib.Numerals.{add-one}
use native.Mathlib.Omega.{arith}
use lib.Dec.{eqb}
use borrow.Author.Tests.{eq-eqb, ne_eqb, eqb-true}
use lib.ListN.{length, get_or, take, drop, length-append, drop_of_length-le}
use lib.Seq.{sets, sets-eq, drop-cons, take_at}
use Rattle.arith.proofs.PickLaws.{pick_each}
use Rattle.text.specs.Ascii.{bytes}
use Rattle.text_print.proofs.StoreLaws.{sets_append}
use Rattle.text_lines.specs.Lines.{keyed_line}
use Rattle.text_lines.specs.Puts.{Puts}
use Rattle.chip_dmc_reader.specs.Reader.{next_address}
use Rattle.chip_sheet.specs.Sheet.{sheet_levels, sheet_answer, sheet_buffer}
use Rattle.chip_sheet.specs.declared.Written.{Written}
use Rattle.chip_sheet.proofs.Levels.{levels_long}
use Rattle.chip_sheet.proofs.Refusals.{done}
use Rattle.perch_sheet.specs.Report.{level_line, level_lines, sheet_refusal, outcome_text, sheet_text}
use Rattle.perch_sheet.proofs.Sizes.{sheet_size}

-- the lines

lines_none : (a : ℕ) → level_lines a [] ≡ []
unfolding level_lines
lines_none a = refl

module _ (a : ℕ) (s : List ℕ) (i : ℕ) where
  lines_next : i < length s → level_lines a (drop i s) ≡ level_line a (get_or s i 0) ++ level_lines (next_address a) (drop (i + 1) s)
  unfolding level_lines
  lines_next h = rw (add-one, drop-cons s i 0)

  -- the next line is put, and what is left behind it makes the whole still
  pub lines_step : i < length s → (out : List ℕ) (place whole : ℕ) (all : List ℕ) → whole ≤ length out
      → place + length (level_lines a (drop i s)) ≡ whole → sets out place (level_lines a (drop i s)) ≡ all
      → (r : ℕ) (out' : List ℕ) → Puts out place (level_line a (get_or s i 0)) out' r
      → (r + length (level_lines (next_address a) (drop (i + 1) s)) ≡ whole) × (sets out' r (level_lines (next_address a) (drop (i + 1) s)) ≡ all)
  lines_step h out place whole all room size left r out' w =
      let one = level_line a (get_or s i 0) in
      let rest = level_lines (next_address a) (drop (i + 1) s) in
      let n = lines_next h in
      let e = ap length n ∙ length-append one rest in
      let p = w (omega arith) in
      let q = p.place in
      (omega arith, rw (p.bytes, p.place) (sets_append one rest out place ∙ (rw n at left)))

  pub lines_end_lem : length s ≤ i → level_lines a (drop i s) ≡ []
  lines_end_lem h = rw (drop_of_length-le s h) (lines_none a)

-- the outcomes

module _ (memory : List ℕ) (level address n : ℕ) where
  module _ (buffer : List ℕ) (long : length buffer ≡ 4081) (w : Written) (e : w ≡ sheet_answer memory level address n buffer) where
    number_is : (sheet_answer memory level address n buffer).number ≡ sheet_refusal memory level address n
    unfolding sheet_answer
    number_is =
        rw long
        (pick_each (λ (v : Written). v.number ≡ sheet_refusal memory level address n) (eqb (sheet_refusal memory level address n) 0)
        (λ z. sym (eqb-true _ _ z))
        (λ z. refl))

    number : w.number ≡ sheet_refusal memory level address n
    number = ap (λ (v : Written). v.number) e ∙ number_is

    -- what a refusal brings
    pub text_refused : (w.number ≡ 0 → ⊥) → sheet_text memory level address n ≡ bytes "sheet=1\n" ++ keyed_line (bytes "refused=") w.number
    unfolding sheet_text outcome_text
    text_refused h = rw (← number, ne_eqb w.number 0 h)

    module _ (z : w.number ≡ 0) where
      none : sheet_refusal memory level address n ≡ 0
      none = sym number ∙ z

      drawn_text : sheet_text memory level address n ≡ bytes "sheet=1\n" ++ level_lines address (sheet_levels memory n address level)
      unfolding sheet_text outcome_text
      drawn_text = rw (eq-eqb (sheet_refusal memory level address n) 0 none)

      length_drawn : w.length ≡ n
      unfolding sheet_answer
      length_drawn = ap (λ (v : Written). v.length) e ∙ (rw (long, eq-eqb (sheet_refusal memory level address n) 0 none) refl)

      pub length_most : w.length ≤ 4081
      length_most = rw length_drawn (done memory level address n 4081 none).length_most

      pub address_most : address ≤ 65535
      address_most = (done memory level address n 4081 none).address_most

      -- the levels are at the front of the buffer, as many as asked for
      module _ (after : List ℕ) (f : after ≡ sheet_buffer memory level address n buffer) where
        levels_drawn : take w.length after ≡ sheet_levels memory n address level
        unfolding sheet_buffer
        levels_drawn =
            rw (f, length_drawn, long, eq-eqb (sheet_refusal memory level address n) 0 none)
            (take_at (sheet_levels memory n address level) (drop n buffer) n (levels_long memory n address level))

        pub levels_taken : w.length ≡ length (take w.length after)
        levels_taken = length_drawn ∙ sym (ap length levels_drawn ∙ levels_long memory n address level)

        pub text_drawn : sheet_text memory level address n ≡ bytes "sheet=1\n" ++ level_lines address (take w.length after)
        text_drawn = drawn_text ∙ ap (λ (s : List ℕ). bytes "sheet=1\n" ++ level_lines address s) (sym levels_drawn)

-- what a caller with 40,000 bytes gets
pub whole_text : (memory : List ℕ) (level address n : ℕ) (out : List ℕ) → 40000 ≤ length out → (out' : List ℕ) (r : ℕ) → Puts out 0 (sheet_text memory level address n) out' r
    → (r ≡ length (sheet_text memory level address n)) × (out' ≡ sheet_text memory level address n ++ drop r out)
whole_text memory level address n out h out' r w =
    let t = sheet_text memory level address n in
    let room : 0 + length t ≤ length out = omega (arith, sheet_size memory level address n) in
    let p = w room in
    let q = p.place in
    let f : 0 + length t ≡ r = omega arith in
    (omega arith, p.bytes ∙ (sets-eq t out 0 room ∙ ap (λ (k : ℕ). t ++ drop k out) f))

-- and finds at its front
pub front_is : (t out out' : List ℕ) (r : ℕ) → r ≡ length t → out' ≡ t ++ drop r out → (r ≤ length out') × (take r out' ≡ t)
front_is t out out' r e f =
    let l = ap length f ∙ length-append t (drop r out) in
    (omega arith, ap (take r) f ∙ take_at t (drop r out) r (sym e))
