-- A cursor over a log as 88 bytes, low byte first in every number: its place 8, the loops open 8, the eight starts 8 each, the eight turns left 1
-- each. Any 88 bytes are a cursor.
use Rattle.std.specs.Prelude.{ℕ, ◌^◌, ◌<◌, ◌≡◌, List, ◌++◌, length, get_or, eqb}
use Rattle.arith.specs.Pick.{pick}
use Rattle.log_cursor.specs.declared.Cursor.{Cursor}
use Rattle.c_bytes.specs.Numbers.{wide_bytes, wides_bytes, wide_of, wides_of}

-- how many bytes a cursor is
abbrev pub cursor_size : ℕ
cursor_size = 88

unfoldable pub cursor_bytes : Cursor → List ℕ
cursor_bytes c = wide_bytes 8 c.at ++ (wide_bytes 8 c.depth ++ (wides_bytes 8 c.starts ++ wides_bytes 1 c.left))

-- the cursor that bytes stand for
unfoldable pub cursor_of : List ℕ → Cursor
cursor_of b = record { at = wide_of b 0 8; depth = wide_of b 8 8; starts = wides_of b 16 8 8; left = wides_of b 80 1 8 }

-- what writing a cursor to lent bytes leaves in them: the cursor's bytes; where other than so many bytes are lent, those as they were
unfoldable pub cursor_encoded : Cursor → List ℕ → List ℕ
cursor_encoded c old = pick (eqb (length old) cursor_size) (cursor_bytes c) old

-- the ranges of a cursor's types, which every cursor has: usize, u8, and arrays of eight
pub record CursorFits (c : Cursor) : Type 0 where
  pub at : c.at < 2 ^ 64
  pub depth : c.depth < 2 ^ 64
  pub starts : (length c.starts ≡ 8) × ((i : ℕ) → get_or c.starts i 0 < 2 ^ 64)
  pub left : (length c.left ≡ 8) × ((i : ℕ) → get_or c.left i 0 < 256)
