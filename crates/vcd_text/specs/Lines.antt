-- The lines of a VCD (IEEE 1364, "Value change dump files"): a time, and the value of a variable by its one-letter code.
use Rattle.std.specs.Prelude.{ℕ, zero, suc, ◌+◌, ◌/◌, ◌%◌, List, [], ◌∷◌, ◌++◌, eqb}
use Rattle.arith.specs.Pick.{pick}
use Rattle.text.specs.Ascii.{bytes}
use Rattle.text.specs.Decimal.{digits_of}

-- `#TIME`: "#" and a decimal, for any number of 64 bits
unfoldable pub time_line : ℕ → List ℕ
time_line t = bytes "#" ++ (digits_of 20 t ++ bytes "\n")

-- a number below 2 ^ w in w binary digits, the highest first
unfoldable pub binary_text : ℕ → ℕ → List ℕ
binary_text zero n = []
binary_text (suc w) n = binary_text w (n / 2) ++ ((48 + n % 2) ∷ [])

-- `0CODE` or `1CODE`: a variable of one bit; `bBITS CODE`: of w bits
unfoldable pub value_line : ℕ → ℕ → ℕ → List ℕ
value_line w code n = pick (eqb w 1) ((48 + n % 2) ∷ code ∷ bytes "\n") (bytes "b" ++ (binary_text w n ++ (bytes " " ++ (code ∷ bytes "\n"))))
