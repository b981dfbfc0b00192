-- Numbers as bytes, low byte first.
use Rattle.std.specs.Prelude.{ℕ, zero, suc, ◌+◌, ◌*◌, List, [], ◌∷◌, ◌++◌}
use Rattle.c_bytes.specs.Fields.{low, high, byte_of}

-- WRITTEN

-- a number in n bytes
unfoldable pub wide_bytes : ℕ → ℕ → List ℕ
wide_bytes zero x = []
wide_bytes (suc n) x = low x ∷ wide_bytes n (high x)

-- numbers one behind the other, n bytes each
unfoldable pub wides_bytes : ℕ → List ℕ → List ℕ
wides_bytes n [] = []
wides_bytes n (x ∷ xs) = wide_bytes n x ++ wides_bytes n xs

-- READ: past the bytes' end everything is 0

-- the number in the n bytes from `at` on
unfoldable pub wide_of : List ℕ → ℕ → ℕ → ℕ
wide_of b at zero = 0
wide_of b at (suc n) = byte_of b at + 256 * wide_of b (at + 1) n

-- k numbers of n bytes each, from `at` on
unfoldable pub wides_of : List ℕ → ℕ → ℕ → ℕ → List ℕ
wides_of b at n zero = []
wides_of b at n (suc k) = wide_of b at n ∷ wides_of b (at + n) n k
