-- The dwell table at the boundary: 128 lent words.
use Rattle.std.specs.Prelude.{ℕ, List, eqb, length, replicate}
use Rattle.arith.specs.Pick.{pick}

-- the table that lent words are, an empty one where they are not 128
unfoldable pub table_of : List ℕ → List ℕ
table_of words = pick (eqb (length words) 128) words (replicate 128 0)

-- the lent words after a table is stored: where they are not 128, as they were
unfoldable pub counts_after : List ℕ → List ℕ → List ℕ
counts_after table words = pick (eqb (length words) 128) table words
