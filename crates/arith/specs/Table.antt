-- Helper: nobody has to believe this; a computed test over a table, from which laws about its entries are had.
-- A test of every entry of a table.
use Rattle.std.specs.Prelude.{ℕ, suc, Bool, true, List, [], ◌∷◌}
use Rattle.arith.specs.Pick.{both}

-- the test passes at each entry of the list with its place, counted from i
abbrev pub every : (ℕ → ℕ → Bool) → ℕ → List ℕ → Bool
every f i [] = true
every f i (x ∷ xs) = both (f i x) (every f (suc i) xs)
