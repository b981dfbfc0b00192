-- "By the DMC rule": the level after a byte is that of the channel's own output unit after eight outputs on that byte. Assumes nothing.
use mathlib.Core.Path.{◌≡◌, refl, ◌∙◌}
use mathlib.Core.Bool.{Bool, false}
use Prim.Native.Nat.{ℕ, zero, suc, ◌≤◌}
use native.Mathlib.Omega.{arith}
use lib.Dec.{leb}
use borrow.Author.Tests.{lt-leb}
use Rattle.arith.specs.Iterate.{iterate}
use Rattle.chip_dmc_output.specs.Output.{output_step}
use Rattle.chip_dmc_output.specs.declared.Output.{Output}
use Rattle.chip_sheet.specs.Byte.{low_steps, eight_steps}

module _ (period : ℕ) (full : Bool) (buffer : ℕ) where
  -- as long as bits are left: that many outputs are that many steps
  outputs : (k : ℕ) (o : Output) → o.silence ≡ false → k ≤ o.bits → (iterate (output_step period full buffer) k o).level ≡ low_steps k o.shift o.level
  unfolding iterate low_steps output_step
  outputs zero o e h = refl
  outputs (suc zero) o e h = rw e
  outputs (suc (suc k)) o e h =
      let f : leb o.bits 1 ≡ false = lt-leb o.bits 1 (omega arith) in
      outputs (suc k) (output_step period full buffer o) (rw (f, e)) (rw f (omega arith))
      ∙ simp (f, e)

  -- EIGHT OUTPUTS ON A BYTE, NOT SILENT, GIVE THE LEVEL OF THE SHEET
  pub by_the_rule : (o : Output) → o.silence ≡ false → o.bits ≡ 8
      → (iterate (output_step period full buffer) 8 o).level ≡ eight_steps o.shift o.level
  by_the_rule o e h = outputs 8 o e (omega arith)
