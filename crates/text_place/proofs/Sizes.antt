-- How long a shown line and a mark are. Assumes nothing.
use Prim.Native.Nat.{ℕ, ◌*◌, ◌≤◌}
use mathlib.Core.List.{List, [], ◌∷◌}
use native.Mathlib.Omega.{arith}
use lib.ListN.{length, take, length-append, length-take, length-replicate}
use Rattle.arith.proofs.PickLaws.{pick_both}
use Rattle.text_print.proofs.StoreLaws.{length_hex}
use Rattle.text_lines.proofs.Sizes.{UpTo}
use Rattle.text_place.specs.Place.{front_at, line_at}
use Rattle.text_place.specs.Shown.{visible, shown_byte, shown, blank, shown_line, mark_line}

byte_size : (c : ℕ) → UpTo 4 (shown_byte c)
unfolding shown_byte
byte_size c = pick_both (UpTo 4) (visible c) (omega arith) (omega (arith, length_hex c))

shown_size : (s : List ℕ) → length (shown s) ≤ 4 * length s
unfolding shown
shown_size [] = omega arith
shown_size (c ∷ s) = rw length-append (omega (arith, byte_size c, shown_size s))

-- 60 bytes shown
sixty : (s : List ℕ) → UpTo 240 (shown (take 60 s))
sixty s = omega (arith, shown_size (take 60 s), length-take 60 s)

pub line_size : (log : List ℕ) (place : ℕ) → UpTo 241 (shown_line log place)
unfolding shown_line
line_size log place = rw length-append (omega (arith, sixty (line_at log place)))

pub mark_size : (log : List ℕ) (place : ℕ) → UpTo 242 (mark_line log place)
unfolding mark_line blank
mark_size log place = rw (length-append, length-replicate) (omega (arith, sixty (front_at log place)))
