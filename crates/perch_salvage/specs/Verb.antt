-- What `perch salvage` does with a damaged log: the repaired log on standard output, and on standard error the list, a line for each entry, or a
-- refusal's number and place.
use Rattle.std.specs.Prelude.{ℕ, ◌≡◌, List, [], ◌∷◌, ◌++◌, eqb, Result, Ok, Err}
use Rattle.arith.specs.Pick.{pick}
use Rattle.text.specs.Ascii.{bytes}
use Rattle.text.specs.Decimal.{decimal_text}
use Rattle.log_salvage.specs.declared.Salvaged.{Salvaged}
use Rattle.text_place.specs.Place.{line_at, line_number}
use Rattle.perch_reasons.specs.Reasons.{reason_text}
use Rattle.log_salvage.specs.Answer.{salvage_of}
use Rattle.refusal.specs.declared.Refusal.{Refusal}
use Rattle.refusal.specs.Refusal.{refusal}
use Rattle.perch_salvage.specs.declared.Lengths.{Lengths}

abbrev pub lengths : ℕ → ℕ → Lengths
lengths n m = record { bytes = n; entries = m }

unfoldable pub outcome_from : Salvaged → Result Lengths Refusal
outcome_from a = pick (eqb a.number 0) (Ok (lengths a.length a.entries)) (Err (refusal a.number a.place))

abbrev pub outcome_of : List ℕ → ℕ → ℕ → Result Lengths Refusal
outcome_of log bytes words = outcome_from (salvage_of log bytes words)

-- `KEYFIRST:SECOND line L: WORDS`, and a line feed
unfoldable pub keyed_text : List ℕ → ℕ → ℕ → ℕ → List ℕ → List ℕ
keyed_text key first second line words =
    key
    ++ (decimal_text first
    ++ (bytes ":"
    ++ (decimal_text second
    ++ (bytes " line "
    ++ (decimal_text line
    ++ (bytes ": "
    ++ (words
    ++ bytes "\n")))))))

-- an entry of the list, for a person: of a line dropped its place and number in the damaged log and the reason in words; of a line added its place and number in the
-- new log and the line itself
unfoldable pub entry_text : List ℕ → List ℕ → ℕ → ℕ → List ℕ
entry_text log new first second =
    pick (eqb second 0)
    (keyed_text (bytes "added=") first second (line_number new first) (line_at new first))
    (keyed_text (bytes "dropped=") first second (line_number log first) (reason_text second))

-- Document 01: "When an answer is an enum, a definition states this paper's number and values for each enum case": the number, 0 where the log is written, the
-- place, and the lengths of the log and of the list that were written
abbrev pub outcome_number : Result Lengths Refusal → ℕ
outcome_number (Err e) = e.number
outcome_number (Ok n) = 0

abbrev pub outcome_place : Result Lengths Refusal → ℕ
outcome_place (Err e) = e.place
outcome_place (Ok n) = 0

abbrev pub outcome_lengths : Result Lengths Refusal → List ℕ
outcome_lengths (Err e) = []
outcome_lengths (Ok n) = n.bytes ∷ n.entries ∷ []

-- an outcome has those of the answer
abbrev pub OutcomeIs : Salvaged → Result Lengths Refusal → Type 0
OutcomeIs a r =
    (outcome_number r ≡ a.number) × (outcome_place r ≡ pick (eqb a.number 0) 0 a.place)
    × (outcome_lengths r ≡ pick (eqb a.number 0) (a.length ∷ a.entries ∷ []) [])
