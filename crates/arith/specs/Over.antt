-- Lent memory after a write to its front. Document 01: "Lent memory past what an answer writes stays."
use Rattle.std.specs.Prelude.{ℕ, List, ◌++◌, length, drop}

-- `new` in front of what stood there; what is behind it stays
unfoldable pub over : List ℕ → List ℕ → List ℕ
over new old = new ++ drop (length new) old
