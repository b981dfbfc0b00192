-- A cursor written as bytes is read back, and bytes of a cursor's length are written back as they were. Assumes nothing but the ranges of its types.
use mathlib.Core.Path.{◌≡◌, sym, ap, ◌∙◌}
use mathlib.Core.List.{List, [], ◌∷◌, append-nil}
use Prim.Native.Nat.{ℕ, zero, suc, ◌+◌, ◌≤◌}
use native.Mathlib.Omega.{arith}
use lib.ListN.{length, get_or, take, drop, length-drop}
use lib.Seq.{take_all, take_at, length-take-le}
use Rattle.c_bytes.specs.Fields.{byte_of}
use Rattle.c_bytes.specs.Numbers.{wide_bytes, wide_of}
use Rattle.c_bytes.proofs.WideLaws.{wide_size}
use Rattle.c_bytes.proofs.NumberLaws.{wide_past, wide_read, widths, cut, wide_most, wide_kept}
use Rattle.c_cursor.specs.Cursors as log
use Rattle.c_cursor.proofs.PlaceLaws as place
use Rattle.c_cursor.proofs.CodeLaws as code
use Rattle.recording_cursor.specs.declared.Cursor.{Cursor}
use Rattle.c_recording.specs.Cursors.{cursor_size, cursor_bytes, cursor_of, CursorFits}

module _ (c : Cursor) (fits : CursorFits c) where
  size : length (log.cursor_bytes c.log) ≡ log.cursor_size
  size = place.cursor_size_lem c.log fits.log.starts.0 fits.log.left.0

  log_read : log.cursor_of (take log.cursor_size (cursor_bytes c)) ≡ c.log
  unfolding cursor_bytes
  log_read = ap log.cursor_of (take_at (log.cursor_bytes c.log) _ log.cursor_size size) ∙ code.written_read c.log fits.log

  samples_read : wide_of (cursor_bytes c) log.cursor_size 4 ≡ c.samples
  unfolding cursor_bytes
  samples_read = wide_past (log.cursor_bytes c.log) _ log.cursor_size 0 4 size ∙ wide_read 4 c.samples _ fits.samples

  clock_read : wide_of (cursor_bytes c) (log.cursor_size + 4) 4 ≡ c.clock
  unfolding cursor_bytes
  clock_read =
      wide_past (log.cursor_bytes c.log) _ log.cursor_size 4 4 size
      ∙ wide_past (wide_bytes 4 c.samples) _ 4 0 4 (wide_size 4 _)
      ∙ ap (λ (b : List ℕ). wide_of b 0 4) (sym (append-nil (wide_bytes 4 c.clock)))
      ∙ wide_read 4 c.clock [] fits.clock

  -- what was written is read
  pub written_read : cursor_of (cursor_bytes c) ≡ c
  unfolding cursor_of
  written_read = rw (log_read, samples_read, clock_read)

-- the loops of a cursor that was read are eight
pub read_starts : (b : List ℕ) → length (cursor_of b).log.starts ≡ 8
unfolding cursor_of log.cursor_of
read_starts b = widths (take log.cursor_size b) 16 8 8

pub read_left : (b : List ℕ) → length (cursor_of b).log.left ≡ 8
unfolding cursor_of log.cursor_of
read_left b = widths (take log.cursor_size b) 80 1 8

pub taken : (n : ℕ) (l : List ℕ) → ((i : ℕ) → get_or l i 0 ≤ 255) → (i : ℕ) → get_or (take n l) i 0 ≤ 255
taken zero l h i = omega arith
taken (suc n) [] h i = omega arith
taken (suc n) (x ∷ l) h zero = h 0
taken (suc n) (x ∷ l) h (suc i) = taken n l (λ j. h (suc j)) i

module _ (b : List ℕ) (bytes : (i : ℕ) → byte_of b i ≤ 255) where
  pub read_fits : CursorFits (cursor_of b)
  unfolding cursor_of
  read_fits =
      record {
        log = code.read_fits (take log.cursor_size b) (taken log.cursor_size b bytes);
        samples = wide_most b bytes log.cursor_size 4;
        clock = wide_most b bytes (log.cursor_size + 4) 4;
      }

  -- what was read is written
  pub read_written : length b ≡ cursor_size → cursor_bytes (cursor_of b) ≡ b
  unfolding cursor_bytes cursor_of
  read_written size =
      let front = code.read_written (take log.cursor_size b) (taken log.cursor_size b bytes) (length-take-le log.cursor_size b (omega arith)) in
      rw (
        front,
        wide_kept b bytes log.cursor_size 4 (omega arith),
        wide_kept b bytes (log.cursor_size + 4) 4 (omega arith),
        take_all 4 (drop (log.cursor_size + 4) b) (simp length-drop (omega arith)),
        ← cut b log.cursor_size 4,
        ← cut b 0 log.cursor_size,
      )
