-- Text over lent bytes: where it fits it is written, else nothing is.
use Rattle.std.specs.Prelude.{ℕ, zero, suc, ◌+◌, ◌/◌, ◌%◌, ◌≡◌, Bool, List, [], ◌∷◌, ◌++◌, length, leb}
use Rattle.std.proofs.lemmas.List.Edits.{sets}
use Rattle.arith.specs.Pick.{pick}

-- from the place `at` on there is room for the text
abbrev pub fits : List ℕ → ℕ → List ℕ → Bool
fits out at text = leb (at + length text) (length out)

-- the text from `at` on; the bytes before and behind it stay
unfoldable pub printed : List ℕ → ℕ → List ℕ → List ℕ
printed out at text = pick (fits out at text) (sets out at text) out

-- the place behind it
unfoldable pub placed : List ℕ → ℕ → List ℕ → ℕ
placed out at text = pick (fits out at text) (at + length text) at

-- the last k decimal digits of n
unfoldable pub digits_in : ℕ → ℕ → List ℕ
digits_in zero n = []
digits_in (suc k) n = digits_in k (n / 10) ++ ((48 + n % 10) ∷ [])

-- Helper: a text was put from `at` on where there was room for it, and r is the place behind it
pub record Put (before : List ℕ) (at : ℕ) (text after : List ℕ) (r : ℕ) : Type 0 where
  pub place : r ≡ at + length text
  pub bytes : after ≡ sets before at text
