-- A line as it is shown, and the mark below it.
use Rattle.std.specs.Prelude.{ℕ, Bool, List, [], ◌∷◌, ◌++◌, leb, length, take, replicate}
use Rattle.arith.specs.Pick.{pick, both}
use Rattle.text.specs.Ascii.{bytes}
use Rattle.text.specs.Hex.{hex_text}
use Rattle.text_place.specs.Place.{front_at, line_at}

-- a byte that is written as itself: printable ASCII
unfoldable pub visible : ℕ → Bool
visible c = both (leb 32 c) (leb c 126)

-- any other byte is written as `\xHH`
unfoldable pub shown_byte : ℕ → List ℕ
shown_byte c = pick (visible c) (c ∷ []) (bytes "\\x" ++ hex_text 2 c)

-- the bytes of s as they are shown
unfoldable pub shown : List ℕ → List ℕ
shown [] = []
shown (c ∷ s) = shown_byte c ++ shown s

-- as many spaces as s has characters where it is shown
unfoldable pub blank : List ℕ → List ℕ
blank s = replicate (length (shown s)) 32

-- the first 60 bytes of the place's line
unfoldable pub shown_line : List ℕ → ℕ → List ℕ
shown_line log place = shown (take 60 (line_at log place)) ++ bytes "\n"

-- `^` below the place, or behind what is shown
unfoldable pub mark_line : List ℕ → ℕ → List ℕ
mark_line log place = blank (take 60 (front_at log place)) ++ bytes "^\n"
