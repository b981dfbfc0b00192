-- A line of what is played, as bytes. Document 01, "The log": the program's lines.
use Rattle.std.specs.Prelude.{ℕ, List, [], ◌∷◌, ◌++◌}
use Rattle.text.specs.Ascii.{bytes}
use Rattle.text.specs.Decimal.{decimal_text}
use Rattle.text.specs.Hex.{hex_text}
use Rattle.play_text.specs.declared.Entry.{Entry}
use Rattle.play_text.specs.declared.Entry.TheVariants.{Play, Level, Read, Stop}

-- the lines: `play=1`, `level=T:L`, `read=T:VV` (lower-case hex), `stop=T`, each ended by one line feed
unfoldable pub entry_text : Entry → List ℕ
entry_text Play = bytes "play=1\n"
entry_text (Level t l) = bytes "level=" ++ (decimal_text t ++ (bytes ":" ++ (decimal_text l ++ bytes "\n")))
entry_text (Read t v) = bytes "read=" ++ (decimal_text t ++ (bytes ":" ++ (hex_text 2 v ++ bytes "\n")))
entry_text (Stop t) = bytes "stop=" ++ (decimal_text t ++ bytes "\n")

unfoldable pub entries_text : List Entry → List ℕ
entries_text [] = []
entries_text (n ∷ entries) = entry_text n ++ entries_text entries

-- "A refusal prints `play=1` and `refused=NUMBER:PLACE`."
unfoldable pub refusal_text : ℕ → ℕ → List ℕ
refusal_text number place =
    bytes "play=1\n" ++ (bytes "refused=" ++ (decimal_text number ++ (bytes ":" ++ (decimal_text place ++ bytes "\n"))))
