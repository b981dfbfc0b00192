-- A line's key and value: whether `=` stands in it, and whether all behind a key that takes a decimal is one.
use Rattle.std.specs.Prelude.{ℕ, ◌-◌, List, [], ◌∷◌, Bool, true, false, length, get_or, take, drop, eqb, Option, Some, None}
use Rattle.arith.specs.Pick.{pick, both, either}
use Rattle.text.specs.Ascii.{bytes}
use Rattle.text.specs.Key.{starts_with}
use Rattle.text.specs.Decimal.{decimal}

-- `=` (61) stands in s
unfoldable pub keyed : List ℕ → Bool
keyed [] = false
keyed (c ∷ s) = either (eqb c 61) (keyed s)

-- s up to its last byte, if that is a line feed
unfoldable pub unfed : List ℕ → List ℕ
unfed s = pick (eqb (get_or s (length s - 1) 0) 10) (take (length s - 1) s) s

-- "a decimal of right shape"
unfoldable pub said : Option ℕ → Bool
said (Some n) = true
said None = false

-- all behind a key that takes a decimal is one: from its first digit, at 5, to the line feed or the log's end
unfoldable pub counts : List ℕ → Bool
counts s =
    both (either (starts_with (bytes "wait=") s) (either (starts_with (bytes "loop=") s) (starts_with (bytes "stop=") s)))
    (said (decimal (unfed (drop 5 s))))
