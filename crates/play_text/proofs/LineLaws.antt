-- Lines where 23 bytes are left for each. Assumes nothing.
use Prim.Native.Nat.{ℕ, ◌+◌, ◌-◌, ◌*◌, ◌/◌, ◌≤◌}
use mathlib.Core.Path.{◌≡◌, refl, sym}
use mathlib.Core.Bool.{Bool, true, false}
use mathlib.Core.List.{List}
use native.Mathlib.Omega.{arith}
use lib.Dec.{leb}
use lib.ListN.{length}
use lib.Seq.{sets}
use borrow.Author.Tests.{le-leb, lt-leb, leb-true, leb-false}
use Rattle.play_text.specs.Lines.{lines_in, lines_end}

-- 23 bytes for each of n lines
pub room_left : (size at n : ℕ) → at ≤ size → leb n ((size - at) / 23) ≡ leb (at + 23 * n) size
room_left size at n h = by (leb n ((size - at) / 23)) refl
  where
    by : (t : Bool) → leb n ((size - at) / 23) ≡ t → t ≡ leb (at + 23 * n) size
    by true e = let l = leb-true n ((size - at) / 23) e in sym (le-leb (at + 23 * n) size (omega arith))
    by false e = let l = leb-false n ((size - at) / 23) e in sym (lt-leb (at + 23 * n) size (omega arith))

-- what a caller with room learns
module _ (out : List ℕ) (at n : ℕ) (text : List ℕ) (h : at + 23 * n ≤ length out) where
  pub lines_in_lem : lines_in out at n text ≡ sets out at text
  unfolding lines_in
  lines_in_lem = rw (le-leb _ _ h)

  pub lines_end_lem : lines_end out at n text ≡ at + length text
  unfolding lines_end
  lines_end_lem = rw (le-leb _ _ h)

-- and one without
module _ (out : List ℕ) (at n : ℕ) (text : List ℕ) (h : leb (at + 23 * n) (length out) ≡ false) where
  pub lines_out : lines_in out at n text ≡ out
  unfolding lines_in
  lines_out = rw h

  pub lines_stay : lines_end out at n text ≡ at
  unfolding lines_end
  lines_stay = rw h
