-- Helper: nobody has to believe this; how the code tells bytes that are a state's, by their number and their flags. That it tells them right is
-- proved (proofs/BackLaws).
use Rattle.std.specs.Prelude.{ℕ, Bool, true, List, [], ◌∷◌, length, leb, eqb}
use Rattle.arith.specs.Pick.{both}
use Rattle.c_bytes.specs.Fields.{byte_of}
use Rattle.c_state.specs.Bytes.{state_size}

-- the places of the flags
abbrev pub flag_places : List ℕ
flag_places =
    1 ∷ 2 ∷ 4 ∷ 5 ∷ 8 ∷ 14 ∷ 16 ∷ 20
    ∷ 22 ∷ 23 ∷ 25 ∷ 26 ∷ 29 ∷ 35 ∷ 37 ∷ 41
    ∷ 42 ∷ 45 ∷ 52
    ∷ 53 ∷ 54 ∷ 56 ∷ 60 ∷ 61
    ∷ 67 ∷ 68 ∷ 80 ∷ 83 ∷ 84
    ∷ 85 ∷ 86 ∷ 89
    ∷ 90 ∷ []

-- every flag is 0 or 1
unfoldable pub flags_right : List ℕ → List ℕ → Bool
flags_right b [] = true
flags_right b (i ∷ is) = both (leb (byte_of b i) 1) (flags_right b is)

-- as many bytes as a state is, and every flag 0 or 1
unfoldable pub told : List ℕ → Bool
told b = both (eqb (length b) state_size) (flags_right b flag_places)
