-- Samples as bytes of a file.
use Rattle.std.specs.Prelude.{ℕ, List, [], ◌∷◌, ◌++◌}
use Rattle.c_bytes.specs.Numbers.{wide_bytes}

-- samples one behind the other, two bytes each, the low one first
unfoldable pub sample_bytes : List ℕ → List ℕ
sample_bytes [] = []
sample_bytes (v ∷ l) = wide_bytes 2 v ++ sample_bytes l
