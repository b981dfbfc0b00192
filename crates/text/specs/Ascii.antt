-- A quoted text as the list of its bytes.
use Rattle.std.specs.Prelude.{ℕ, List, [], ◌∷◌}
use Prim.Native.Char.{code}
use Prim.Native.String.{String, [] as nil, ◌∷◌ as ◌◂◌}

abbrev pub bytes : String → List ℕ
bytes nil = []
bytes (◌◂◌ c s) = code c ∷ bytes s
