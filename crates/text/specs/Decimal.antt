-- Decimals, read and written. Document 01: "Decimals have no leading zero".
use Rattle.std.specs.Prelude.{ℕ, zero, suc, ◌+◌, ◌-◌, ◌*◌, ◌/◌, ◌%◌, List, [], ◌∷◌, ◌++◌, Bool, true, false, not, ltb, leb, eqb, Option, Some, None}
use Rattle.arith.specs.Pick.{pick, both}

-- a byte is one of 0 to 9
unfoldable pub digit : ℕ → Bool
digit c = both (leb 48 c) (leb c 57)

-- digits and nothing else, behind digits that say n
unfoldable pub digits : ℕ → List ℕ → Option ℕ
digits n [] = Some n
digits n (c ∷ s) = pick (digit c) (digits (n * 10 + (c - 48)) s) None

-- one byte or more, and of several the first is no zero
unfoldable pub formed : List ℕ → Bool
formed [] = false
formed (c ∷ []) = true
formed (c ∷ d ∷ s) = not (eqb c 48)

-- the number that s says in decimal with no leading zero, s holding nothing else
unfoldable pub decimal : List ℕ → Option ℕ
decimal s = pick (formed s) (digits 0 s) None

-- the digits of n with no leading zero, for n below 10 ^ k
unfoldable pub digits_of : ℕ → ℕ → List ℕ
digits_of zero n = []
digits_of (suc k) n = pick (ltb n 10) ((48 + n) ∷ []) (digits_of k (n / 10) ++ ((48 + n % 10) ∷ []))

-- a number below 10,000,000,000 in decimal
unfoldable pub decimal_text : ℕ → List ℕ
decimal_text n = digits_of 10 n
