-- Which bytes go along a form: a key, hex digits, a decimal in its range with its line feed; and the first byte with which they don't.
use Rattle.std.specs.Prelude.{ℕ, suc, ◌+◌, ◌-◌, ◌*◌, min, List, [], ◌∷◌, Bool, true, false, ltb, leb, eqb}
use Rattle.arith.specs.Pick.{pick, both}
use Rattle.text.specs.Decimal.{digit}
use Rattle.text.specs.Hex.{hex_digit}

-- a byte that a form asks for: # (35) stands for any lower-case hex digit
unfoldable pub suits : ℕ → ℕ → Bool
suits f c = pick (eqb f 35) (hex_digit c) (eqb c f)

-- s begins the form, or is of it and then has what `rest` lets stand behind it
unfoldable pub along : List ℕ → (List ℕ → Bool) → List ℕ → Bool
along [] rest s = rest s
along (f ∷ fs) rest [] = true
along (f ∷ fs) rest (c ∷ s) = both (suits f c) (along fs rest s)

unfoldable pub nothing : List ℕ → Bool
nothing [] = true
nothing (c ∷ s) = false

-- behind digits that say n: the line feed, if n is not too small; or one more digit, if n is not 0 and the number does not get too large
unfoldable pub goes_on : ℕ → ℕ → ℕ → List ℕ → Bool
goes_on lo hi n [] = true
goes_on lo hi n (c ∷ s) =
    pick (eqb c 10) (both (leb lo n) (nothing s))
    (both (digit c) (both (ltb 0 n) (both (leb (n * 10 + (c - 48)) hi) (goes_on lo hi (n * 10 + (c - 48)) s))))

-- s begins a decimal from lo to hi, with no leading zero, and its line feed: the first digit is 0 only if the number may be 0
unfoldable pub begins_number : ℕ → ℕ → List ℕ → Bool
begins_number lo hi [] = true
begins_number lo hi (c ∷ s) = both (digit c) (both (leb (min lo 1) (c - 48)) (both (leb (c - 48) hi) (goes_on lo hi (c - 48) s)))

-- the first byte of s with which f fails, s's length if there is none
unfoldable pub reach : (List ℕ → Bool) → List ℕ → ℕ
reach f [] = 0
reach f (c ∷ s) = pick (f (c ∷ [])) (suc (reach (λ t. f (c ∷ t)) s)) 0
