-- The bits of a number, numbered from 0 at the lowest.
use Rattle.std.specs.Prelude.{ℕ, ◌/◌, ◌%◌, ◌^◌, Bool, eqb}

-- bit k, as 0 or 1
abbrev pub bit_of : ℕ → ℕ → ℕ
bit_of x k = x / 2 ^ k % 2

-- bit k is set
abbrev pub bit_set : ℕ → ℕ → Bool
bit_set x k = eqb (bit_of x k) 1
