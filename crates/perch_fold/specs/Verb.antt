-- What `perch fold` does with a log: the folded log on standard output, or a refusal's number and place on standard error.
use Rattle.std.specs.Prelude.{◌≡◌, List, ℕ, eqb, Result, Ok, Err}
use Rattle.arith.specs.Pick.{pick}
use Rattle.log_fold.specs.declared.Folded.{Folded}
use Rattle.log_fold.specs.Answer.{fold_of}
use Rattle.refusal.specs.declared.Refusal.{Refusal}
use Rattle.refusal.specs.Refusal.{refusal}

unfoldable pub outcome_from : Folded → Result ℕ Refusal
outcome_from a = pick (eqb a.number 0) (Ok a.length) (Err (refusal a.number a.place))

abbrev pub outcome_of : List ℕ → List ℕ → Result ℕ Refusal
outcome_of log out = outcome_from (fold_of log out)

-- Document 01: "When an answer is an enum, a definition states this paper's number and values for each enum case": the number, 0 where the log is written, the
-- place, and the length of the log that was written
abbrev pub outcome_number : Result ℕ Refusal → ℕ
outcome_number (Err e) = e.number
outcome_number (Ok n) = 0

abbrev pub outcome_place : Result ℕ Refusal → ℕ
outcome_place (Err e) = e.place
outcome_place (Ok n) = 0

abbrev pub outcome_length : Result ℕ Refusal → ℕ
outcome_length (Err e) = 0
outcome_length (Ok n) = n

-- an outcome has those of the answer
abbrev pub OutcomeIs : Folded → Result ℕ Refusal → Type 0
OutcomeIs a r = (outcome_number r ≡ a.number) × (outcome_place r ≡ pick (eqb a.number 0) 0 a.place) × (outcome_length r ≡ pick (eqb a.number 0) a.length 0)
