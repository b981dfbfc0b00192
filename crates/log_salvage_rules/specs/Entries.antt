-- The list of what was done. Change request 12: "A list, two 32-bit words an entry, tells, in the order it is done, each line dropped (start, reason
-- number) and each added (place in the new log, 0)."
use Rattle.std.specs.Prelude.{ℕ, List, [], ◌∷◌, ◌++◌}

-- a line dropped: where it began in the damaged log, and the reason; a line added: where it begins in the new log
pub data Entry : Type 0 where
  dropped : ℕ → ℕ → Entry
  added : ℕ → Entry

unfoldable pub entry_words : Entry → List ℕ
entry_words (dropped start reason) = start ∷ reason ∷ []
entry_words (added place) = place ∷ 0 ∷ []

unfoldable pub list_words : List Entry → List ℕ
list_words [] = []
list_words (e ∷ es) = entry_words e ++ list_words es
