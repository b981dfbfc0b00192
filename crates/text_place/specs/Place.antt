-- Where a place stands in a log: its line, and its column there. 10 is the line feed.
use Rattle.std.specs.Prelude.{ℕ, suc, ◌+◌, List, [], ◌∷◌, ◌++◌, eqb, ltb, length, take, drop}
use Rattle.arith.specs.Pick.{pick}

-- how many line feeds s has
unfoldable pub feeds : List ℕ → ℕ
feeds [] = 0
feeds (c ∷ s) = pick (eqb c 10) (suc (feeds s)) (feeds s)

-- the bytes behind the last line feed of s: bytes are left out from its front as long as it has one
unfoldable pub line_front : List ℕ → List ℕ
line_front [] = []
line_front (c ∷ s) = pick (ltb 0 (feeds (c ∷ s))) (line_front s) (c ∷ s)

-- the bytes before the first line feed of s
unfoldable pub line_rest : List ℕ → List ℕ
line_rest [] = []
line_rest (c ∷ s) = pick (eqb c 10) [] (c ∷ line_rest s)

-- the bytes of the place's line before the place
unfoldable pub front_at : List ℕ → ℕ → List ℕ
front_at log place = line_front (take place log)

-- the place's line, without its line feed
unfoldable pub line_at : List ℕ → ℕ → List ℕ
line_at log place = front_at log place ++ line_rest (drop place log)

-- lines and columns are counted from 1
unfoldable pub line_number : List ℕ → ℕ → ℕ
line_number log place = 1 + feeds (take place log)

unfoldable pub column : List ℕ → ℕ → ℕ
column log place = 1 + length (front_at log place)
