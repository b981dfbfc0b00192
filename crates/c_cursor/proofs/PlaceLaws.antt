-- Parts written one behind the other, and a cursor's parts so written are its bytes. Assumes nothing.
use mathlib.Core.Path.{◌≡◌, sym, ◌∙◌}
use mathlib.Core.List.{List, ◌++◌}
use Prim.Native.Nat.{ℕ, ◌+◌}
use native.Mathlib.Omega.{arith}
use lib.ListN.{length, length-append}
use lib.Seq.{sets}
use Rattle.log_cursor.specs.declared.Cursor.{Cursor}
use Rattle.c_bytes.specs.Numbers.{wide_bytes, wides_bytes}
use Rattle.c_cursor.specs.Cursors.{cursor_size, cursor_bytes}
use Rattle.c_bytes.proofs.PlaceLaws.{put_next, put_all}
use Rattle.c_bytes.proofs.WideLaws.{wide_size, wides_size}

-- a cursor
pub cursor_size_lem : (c : Cursor) → length c.starts ≡ 8 → length c.left ≡ 8 → length (cursor_bytes c) ≡ cursor_size
unfolding cursor_bytes
cursor_size_lem c s l =
    simp length-append
    (omega (arith, wide_size 8 c.at, wide_size 8 c.depth, wides_size 8 c.starts, wides_size 1 c.left))

pub put_loops :
    (starts left old b₁ b₂ : List ℕ)
    → length starts ≡ 8
    → b₁ ≡ sets old 16 (wides_bytes 8 starts)
    → b₂ ≡ sets b₁ 80 (wides_bytes 1 left)
    → b₂ ≡ sets old 16 (wides_bytes 8 starts ++ wides_bytes 1 left)
put_loops starts left old b₁ b₂ l e₁ e₂ = put_next (wides_bytes 8 starts) (wides_bytes 1 left) old b₁ b₂ 16 80 (omega (arith, wides_size 8 starts)) e₁ e₂

pub put_cursor :
    (c : Cursor) (old b₁ b₂ b₃ : List ℕ)
    → length old ≡ cursor_size
    → length c.starts ≡ 8
    → length c.left ≡ 8
    → b₁ ≡ sets old 0 (wide_bytes 8 c.at)
    → b₂ ≡ sets b₁ 8 (wide_bytes 8 c.depth)
    → b₃ ≡ sets b₂ 16 (wides_bytes 8 c.starts ++ wides_bytes 1 c.left)
    → b₃ ≡ cursor_bytes c
unfolding cursor_bytes
put_cursor c old b₁ b₂ b₃ h s l e₁ e₂ e₃ =
    put_all (cursor_bytes c) old b₃ (cursor_size_lem c s l ∙ sym h)
    (put_next (wide_bytes 8 c.at) _ old b₁ b₃ 0 8 (omega (arith, wide_size 8 c.at)) e₁
    (put_next (wide_bytes 8 c.depth) _ b₁ b₂ b₃ 8 16 (omega (arith, wide_size 8 c.depth)) e₂ e₃))
