-- A cursor written as bytes is read back, and bytes of a cursor's length are written back as they were. Assumes nothing but the ranges of its types.
use mathlib.Core.Path.{◌≡◌, sym, ap, ◌∙◌}
use mathlib.Core.List.{List, ◌++◌}
use Prim.Native.Nat.{ℕ, ◌+◌, ◌*◌, ◌≤◌}
use native.Mathlib.Omega.{arith}
use lib.ListN.{length, drop, length-drop}
use lib.Seq.{take_all}
use Rattle.c_bytes.specs.Fields.{byte_of}
use Rattle.log_cursor.specs.declared.Cursor.{Cursor}
use Rattle.c_bytes.specs.Numbers.{wide_bytes, wides_bytes, wide_of, wides_of}
use Rattle.c_cursor.specs.Cursors.{cursor_size, cursor_bytes, cursor_of, CursorFits}
use Rattle.c_bytes.proofs.WideLaws.{wide_size, wides_size}
use Rattle.c_bytes.proofs.NumberLaws.{wide_past, wides_past, wide_read, wides_read, wides_last, widths, cut, wide_most, wides_most, wide_kept, wides_kept}

module _ (c : Cursor) (fits : CursorFits c) where
  at_read : wide_of (cursor_bytes c) 0 8 ≡ c.at
  unfolding cursor_bytes
  at_read = wide_read 8 c.at _ fits.at

  depth_read : wide_of (cursor_bytes c) 8 8 ≡ c.depth
  unfolding cursor_bytes
  depth_read = wide_past (wide_bytes 8 c.at) _ 8 0 8 (wide_size 8 _) ∙ wide_read 8 c.depth _ fits.depth

  starts_read : wides_of (cursor_bytes c) 16 8 8 ≡ c.starts
  unfolding cursor_bytes
  starts_read =
      wides_past (wide_bytes 8 c.at) _ 8 8 8 8 (wide_size 8 _)
      ∙ wides_past (wide_bytes 8 c.depth) _ 8 0 8 8 (wide_size 8 _)
      ∙ ap (wides_of (wides_bytes 8 c.starts ++ wides_bytes 1 c.left) 0 8) (sym fits.starts.0)
      ∙ wides_read 8 c.starts (wides_bytes 1 c.left) fits.starts.1

  left_read : wides_of (cursor_bytes c) 80 1 8 ≡ c.left
  unfolding cursor_bytes
  left_read =
      wides_past (wide_bytes 8 c.at) _ 8 72 1 8 (wide_size 8 _)
      ∙ wides_past (wide_bytes 8 c.depth) _ 8 64 1 8 (wide_size 8 _)
      ∙ wides_past (wides_bytes 8 c.starts) _ 64 0 1 8 (wides_size 8 _ ∙ ap (λ (k : ℕ). 8 * k) fits.starts.0)
      ∙ wides_last 1 8 c.left fits.left.0 fits.left.1

  -- what was written is read
  pub written_read : cursor_of (cursor_bytes c) ≡ c
  unfolding cursor_of
  written_read = rw (at_read, depth_read, starts_read, left_read)

module _ (b : List ℕ) (bytes : (i : ℕ) → byte_of b i ≤ 255) where
  pub read_fits : CursorFits (cursor_of b)
  unfolding cursor_of
  read_fits =
      record {
        at = wide_most b bytes 0 8;
        depth = wide_most b bytes 8 8;
        starts = (widths b 16 8 8, wides_most b bytes 16 8 8);
        left = (widths b 80 1 8, wides_most b bytes 80 1 8);
      }

  -- what was read is written
  pub read_written : length b ≡ cursor_size → cursor_bytes (cursor_of b) ≡ b
  unfolding cursor_bytes cursor_of
  read_written size =
      rw (
        wide_kept b bytes 0 8 (omega arith),
        wide_kept b bytes 8 8 (omega arith),
        wides_kept b bytes 16 8 8 (omega arith),
        wides_kept b bytes 80 1 8 (omega arith),
        take_all 8 (drop 80 b) (simp length-drop (omega arith)),
        ← cut b 16 64,
        ← cut b 8 8,
        ← cut b 0 8,
      )
