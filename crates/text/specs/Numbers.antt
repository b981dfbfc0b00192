-- What is right of a number that was read.
use Rattle.std.specs.Prelude.{ℕ, min, leb, Option, Some, None}
use Rattle.arith.specs.Pick.{pick, both}

-- a number from lo to hi, else none
unfoldable pub within : ℕ → ℕ → Option ℕ → Option ℕ
within lo hi (Some n) = pick (both (leb lo n) (leb n hi)) (Some n) None
within lo hi None = None

-- the code holds no number above 2^32, and takes that for no number
unfoldable pub capped : Option ℕ → ℕ
capped (Some n) = min 4294967296 n
capped None = 4294967296
