-- Records of a run as level lines.
use Rattle.std.specs.Prelude.{ℕ, zero, suc, ◌+◌, ◌%◌, List, [], ◌∷◌}
use Rattle.play_text.specs.declared.Entry.{Entry}
use Rattle.play_text.specs.declared.Entry.TheVariants.{Level}

-- n records in words, as lines of a wait that began at time t; a level is a word's low 16 bits
unfoldable pub level_entries : ℕ → ℕ → List ℕ → List Entry
level_entries t zero words = []
level_entries t (suc n) [] = []
level_entries t (suc n) (x ∷ []) = []
level_entries t (suc n) (x ∷ y ∷ words) = Level (t + x) (y % 65536) ∷ level_entries t n words
