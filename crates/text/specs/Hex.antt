-- Lower-case hex of so many digits, read and written.
use Rattle.std.specs.Prelude.{ℕ, zero, suc, ◌+◌, ◌-◌, ◌*◌, ◌/◌, ◌%◌, List, [], ◌∷◌, ◌++◌, Bool, length, ltb, leb, eqb, Option, Some, None}
use Rattle.arith.specs.Pick.{pick, both, either}
use Rattle.text.specs.Decimal.{digit}

-- a byte is one of 0 to 9 or a to f
unfoldable pub hex_digit : ℕ → Bool
hex_digit c = either (digit c) (both (leb 97 c) (leb c 102))

-- what such a byte says
unfoldable pub hex_value : ℕ → ℕ
hex_value c = pick (digit c) (c - 48) (c - 87)

-- hex digits and nothing else, behind digits that say n
unfoldable pub hex_digits : ℕ → List ℕ → Option ℕ
hex_digits n [] = Some n
hex_digits n (c ∷ s) = pick (hex_digit c) (hex_digits (n * 16 + hex_value c) s) None

-- the number that s says in k hex digits, s holding nothing else
unfoldable pub hex : ℕ → List ℕ → Option ℕ
hex k s = pick (eqb (length s) k) (hex_digits 0 s) None

-- the hex digit of a number below 16
unfoldable pub hex_byte : ℕ → ℕ
hex_byte d = pick (ltb d 10) (48 + d) (87 + d)

-- a number below 16 ^ k in k hex digits
unfoldable pub hex_text : ℕ → ℕ → List ℕ
hex_text zero n = []
hex_text (suc k) n = hex_text k (n / 16) ++ (hex_byte (n % 16) ∷ [])
