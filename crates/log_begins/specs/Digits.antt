-- Helper: nobody has to believe this; how the code tells a decimal's shape; proved to be that of `decimal` (proofs/ValueLaws).
use Rattle.std.specs.Prelude.{ℕ, List, [], ◌∷◌, Bool, true}
use Rattle.arith.specs.Pick.{both}
use Rattle.text.specs.Decimal.{digit}

-- digits and nothing else
unfoldable pub all_digits : List ℕ → Bool
all_digits [] = true
all_digits (c ∷ s) = both (digit c) (all_digits s)
