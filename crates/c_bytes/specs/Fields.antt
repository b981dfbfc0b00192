-- Single fields as bytes: a flag is 0 or 1, a number of two bytes has its low byte first. Past the bytes' end everything is 0.
use Rattle.std.specs.Prelude.{ℕ, ◌+◌, ◌*◌, ◌/◌, ◌%◌, Bool, List, get_or, eqb}
use Rattle.arith.specs.Pick.{pick}

-- WRITTEN

abbrev pub flag_byte : Bool → ℕ
flag_byte on = pick on 1 0

abbrev pub low : ℕ → ℕ
low x = x % 256

abbrev pub high : ℕ → ℕ
high x = x / 256

-- READ

abbrev pub byte_of : List ℕ → ℕ → ℕ
byte_of b i = get_or b i 0

abbrev pub flag_of : List ℕ → ℕ → Bool
flag_of b i = eqb (byte_of b i) 1

abbrev pub pair_of : List ℕ → ℕ → ℕ
pair_of b i = byte_of b i + 256 * byte_of b (i + 1)
