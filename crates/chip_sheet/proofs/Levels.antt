-- The levels of a sheet, one more at a time, into lent bytes. Assumes nothing.
use Prim.Native.Nat.{ℕ, zero, suc, ◌+◌, ◌-◌, ◌≤◌, ◌<◌}
use mathlib.Core.Path.{◌≡◌, refl, ap, ◌∙◌}
use mathlib.Core.List.{List, ◌++◌}
use native.Mathlib.Nat.{zero-add}
use native.Mathlib.Omega.{arith}
use lib.ListN.{length, set, drop}
use lib.Seq.{sets, sets-eq}
use Rattle.chip_dmc_reader.specs.Reader.{byte_at, next_address}
use Rattle.chip_sheet.specs.Byte.{eight_steps}
use Rattle.chip_sheet.specs.Sheet.{sheet_levels}

-- A SHEET OF n BYTES HAS n LEVELS
pub levels_long : (memory : List ℕ) (n address level : ℕ) → length (sheet_levels memory n address level) ≡ n
unfolding sheet_levels
levels_long memory zero address level = refl
levels_long memory (suc n) address level = ap suc (levels_long memory n _ _)

module _ (memory : List ℕ) where
  -- one level stored, the others still to come
  pub draw_step : (b : List ℕ) (i n a l : ℕ) → i < n
      → sets (set b i (eight_steps (byte_at memory a) l)) (i + 1) (sheet_levels memory (n - (i + 1)) (next_address a) (eight_steps (byte_at memory a) l))
      ≡ sets b i (sheet_levels memory (n - i) a l)
  unfolding sheet_levels
  draw_step b i n a l h =
      let e : n - i ≡ suc (n - suc i) = omega arith in
      let f : i + 1 ≡ suc i = omega arith in
      rw (f, e)

  pub draw_end : (b : List ℕ) (i n a l : ℕ) → n ≤ i → sets b i (sheet_levels memory (n - i) a l) ≡ b
  unfolding sheet_levels
  draw_end b i n a l h = let e : n - i ≡ 0 = omega arith in rw e

  -- all of them over the first bytes
  pub drawn : (b : List ℕ) (n a l : ℕ) → n ≤ length b → sets b 0 (sheet_levels memory n a l) ≡ sheet_levels memory n a l ++ drop n b
  drawn b n a l h =
      let e = levels_long memory n a l in
      sets-eq (sheet_levels memory n a l) b 0 (omega arith)
      ∙ ap (λ (k : ℕ). sheet_levels memory n a l ++ drop k b) (zero-add (length (sheet_levels memory n a l)) ∙ e)
