-- A text that is looked for: in front, or as the whole.
use Rattle.std.specs.Prelude.{ℕ, List, [], ◌∷◌, Bool, true, false, length, leb, eqb}
use Rattle.arith.specs.Pick.{pick, both}

-- s starts with the bytes of key
unfoldable pub starts_with : List ℕ → List ℕ → Bool
starts_with [] s = true
starts_with (k ∷ ks) [] = false
starts_with (k ∷ ks) (c ∷ s) = pick (eqb c k) (starts_with ks s) false

-- s is the bytes of text and nothing else
unfoldable pub exactly : List ℕ → List ℕ → Bool
exactly text s = both (starts_with text s) (leb (length s) (length text))
