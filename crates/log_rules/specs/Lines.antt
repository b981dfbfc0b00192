-- The lines of a log. Document 01: "Lines end in one line feed."
use Rattle.std.specs.Prelude.{ℕ, suc, ◌+◌, List, [], ◌∷◌, take, drop, eqb}
use Rattle.arith.specs.Pick.{pick}

-- a byte in front of the first line
unfoldable pub onto : ℕ → List (List ℕ) → List (List ℕ)
onto c [] = (c ∷ []) ∷ []
onto c (l ∷ ls) = (c ∷ l) ∷ ls

-- the lines of a text, each with its line feed; the last may have none
unfoldable pub lines_of : List ℕ → List (List ℕ)
lines_of [] = []
lines_of (c ∷ s) = pick (eqb c 10) ((c ∷ []) ∷ lines_of s) (onto c (lines_of s))

-- how many bytes the first line of s has, with its line feed if it has one
unfoldable pub line_len : List ℕ → ℕ
line_len [] = 0
line_len (c ∷ s) = pick (eqb c 10) 1 (suc (line_len s))

-- the bytes of the line that begins at a place, and where the line behind it begins
unfoldable pub bytes_at : List ℕ → ℕ → List ℕ
bytes_at log at = take (line_len (drop at log)) (drop at log)

unfoldable pub next_line : List ℕ → ℕ → ℕ
next_line log at = at + line_len (drop at log)
