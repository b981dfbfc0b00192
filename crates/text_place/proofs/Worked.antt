-- Worked examples: a wait out of range in the second line, and bytes that are not printable. Assumes nothing.
use mathlib.Core.Path.{◌≡◌, refl}
use mathlib.Core.List.{List, [], ◌∷◌, ◌++◌}
use Prim.Native.Nat.{ℕ}
use Rattle.text.specs.Ascii.{bytes}
use Rattle.text.specs.Hex.{hex_text, hex_byte}
use Rattle.text_place.specs.Place.{feeds, line_front, line_rest, front_at, line_at, line_number, column}
use Rattle.text_place.specs.Shown.{visible, shown_byte, shown, blank, shown_line, mark_line}

abbrev example : List ℕ
example = bytes "log=1\nwait=1000001\nstop=0\n"

line : line_number example 11 ≡ 2
unfolding line_number feeds
line = refl

place : column example 11 ≡ 6
unfolding column front_at line_front feeds
place = refl

below : shown_line example 11 ++ mark_line example 11 ≡ bytes "wait=1000001\n     ^\n"
unfolding shown_line mark_line shown blank shown_byte visible line_at front_at line_front line_rest feeds
below = refl

-- behind the last line feed
last : shown_line example 26 ++ mark_line example 26 ≡ bytes "\n^\n"
unfolding shown_line mark_line shown blank shown_byte visible line_at front_at line_front line_rest feeds
last = refl

others : shown_line (200 ∷ 65 ∷ 9 ∷ []) 1 ++ mark_line (200 ∷ 65 ∷ 9 ∷ []) 1 ≡ bytes "\\xc8A\\x09\n    ^\n"
unfolding shown_line mark_line shown blank shown_byte visible line_at front_at line_front line_rest feeds hex_text hex_byte
others = refl
