-- Levels of a list: any of them, all of them, the lowest, the highest.
use Rattle.std.specs.Prelude.{ℕ, min, max, Bool, true, false, List, [], ◌∷◌, eqb, ltb}
use Rattle.arith.specs.Pick.{both, either}

-- one passes the test, or more
unfoldable pub any : (ℕ → Bool) → List ℕ → Bool
any f [] = false
any f (x ∷ l) = either (f x) (any f l)

-- all pass the test
unfoldable pub all : (ℕ → Bool) → List ℕ → Bool
all f [] = true
all f (x ∷ l) = both (f x) (all f l)

-- "a level above 32,767"
abbrev pub any_above : List ℕ → Bool
any_above l = any (λ x. ltb 32767 x) l

-- all are v
abbrev pub all_are : ℕ → List ℕ → Bool
all_are v l = all (λ x. eqb x v) l

-- the lowest of x and the list
unfoldable pub lowest : ℕ → List ℕ → ℕ
lowest x [] = x
lowest x (y ∷ l) = lowest (min x y) l

-- the highest of x and the list
unfoldable pub highest : ℕ → List ℕ → ℕ
highest x [] = x
highest x (y ∷ l) = highest (max x y) l
