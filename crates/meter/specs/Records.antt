-- The levels of records. Document 01: "its number in the run (from 1) and the level, as two 32-bit words".
use Rattle.std.specs.Prelude.{ℕ, ◌+◌, List, [], ◌∷◌, take, drop, Option, None, Some}

-- the levels of words: the second of each two; a last word alone is no record
unfoldable pub levels_in : List ℕ → List ℕ
levels_in [] = []
levels_in (clock ∷ []) = []
levels_in (clock ∷ level ∷ words) = level ∷ levels_in words

-- the levels of `count` records from record `start` on, of those that are there
unfoldable pub record_levels : ℕ → ℕ → List ℕ → List ℕ
record_levels start count words = drop start (take (start + count) (levels_in words))

-- with the level before them, where it counts
abbrev pub levels_heard : Option ℕ → List ℕ → List ℕ
levels_heard None l = l
levels_heard (Some x) l = x ∷ l
