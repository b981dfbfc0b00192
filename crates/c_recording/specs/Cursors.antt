-- A cursor over a recording as 96 bytes, low byte first in every number: that over a log as the crate `c_cursor` has it, the samples 4, the clock 4. Any 96 bytes are a
-- cursor.
use Rattle.std.specs.Prelude.{ℕ, ◌+◌, ◌^◌, ◌<◌, List, ◌++◌, length, take, eqb}
use Rattle.arith.specs.Pick.{pick}
use Rattle.c_bytes.specs.Numbers.{wide_bytes, wide_of}
use Rattle.c_cursor.specs.Cursors as log
use Rattle.recording_cursor.specs.declared.Cursor.{Cursor}

-- how many bytes a cursor is
abbrev pub cursor_size : ℕ
cursor_size = log.cursor_size + 8

unfoldable pub cursor_bytes : Cursor → List ℕ
cursor_bytes c = log.cursor_bytes c.log ++ (wide_bytes 4 c.samples ++ wide_bytes 4 c.clock)

-- the cursor that bytes stand for
unfoldable pub cursor_of : List ℕ → Cursor
cursor_of b = record { log = log.cursor_of (take log.cursor_size b); samples = wide_of b log.cursor_size 4; clock = wide_of b (log.cursor_size + 4) 4 }

-- what writing a cursor to lent bytes leaves in them: the cursor's bytes; where other than so many bytes are lent, those as they were
unfoldable pub cursor_encoded : Cursor → List ℕ → List ℕ
cursor_encoded c old = pick (eqb (length old) cursor_size) (cursor_bytes c) old

-- the ranges of a cursor's types, which every cursor has
pub record CursorFits (c : Cursor) : Type 0 where
  pub log : log.CursorFits c.log
  pub samples : c.samples < 2 ^ 32
  pub clock : c.clock < 2 ^ 32
