-- With 60,000 bytes and 120,020 words lent the list always has room, and a log that passes comes back as it was. Assumes nothing.
use Rattle.std.specs.Prelude.{Result, Ok, Err}
use mathlib.Core.Path.{◌≡◌, refl, ap, sym}
use mathlib.Core.List.{List}
use mathlib.Core.Bool.{Bool, true, false}
use Prim.Native.Nat.{ℕ, ◌+◌, ◌/◌, ◌≤◌}
use native.Mathlib.Omega.{arith}
use borrow.Author.Tests.{eq-eqb, ne_eqb, eqb-true, ltb-false, le-ltb}
use lib.Dec.{eqb, ltb}
use lib.ListN.{length, take, length-append}
use Rattle.arith.specs.Pick.{pick, either}
use Rattle.arith.proofs.PickLaws.{pick_each}
use Rattle.text.specs.Decimal.{decimal_text}
use Rattle.text_print.specs.Printed.{placed, printed}
use Rattle.log_rules.specs.Whole.{heavy, check_of}
use Rattle.log_passing.proofs.Passing.{clear}
use Rattle.log_salvage_rules.specs.Mending.{mended, mended_tree}
use Rattle.log_salvage_rules.proofs.Few.{few}
use Rattle.log_salvage.specs.declared.Salvaged.{Salvaged}
use Rattle.log_salvage.specs.Answer.{number_of}
use Rattle.log_salvage.proofs.AnswerLaws.{passing_answer}
use Rattle.text_lines.proofs.Pieces.{puts, front}
use Rattle.perch_reasons.specs.Reasons.{reason_text}
use Rattle.perch_reasons.proofs.Sizes.{reason_size}
use Rattle.refusal.specs.declared.Refusal.{Refusal}
use Rattle.refusal.specs.Refusal.{refusal}
use Rattle.perch_salvage.specs.declared.Lengths.{Lengths}
use Rattle.perch_salvage.specs.Verb.{lengths, outcome_from, outcome_of, OutcomeIs, keyed_text}

pub finished : (a : Salvaged) → a.number ≡ 0 → outcome_from a ≡ Ok (lengths a.length a.entries)
unfolding outcome_from
finished a h = rw (eq-eqb a.number 0 h)

pub refuses : (a : Salvaged) → (a.number ≡ 0 → ⊥) → outcome_from a ≡ Err (refusal a.number a.place)
unfolding outcome_from
refuses a h = rw (ne_eqb a.number 0 h)

-- the number, place and value of an outcome
outcome_is : (a : Salvaged) → OutcomeIs a (outcome_from a)
unfolding outcome_from
outcome_is a =
    pick_each (OutcomeIs a) (eqb a.number 0) (λ e. rw e (sym (eqb-true a.number 0 e), refl, refl)) (λ e. rw e (refl, refl, refl))

pub outcome_numbers : (a : Salvaged) (r : Result Lengths Refusal) → r ≡ outcome_from a → OutcomeIs a r
outcome_numbers a r e = rw e (outcome_is a)

pub passing_stays : (log : List ℕ) (b w : ℕ) → (check_of log).number ≡ 0 → 60000 ≤ b → outcome_of log b w ≡ Ok (lengths (length log) 0)
unfolding outcome_from
passing_stays log b w h room = ap outcome_from (passing_answer log b w h (omega (arith, (clear log h).short)))

-- 31 is never answered
pub list_fits : (log : List ℕ) (b w : ℕ) → 120020 ≤ w → number_of log b w ≡ 31 → ⊥
unfolding number_of
list_fits log b w h = go (ltb 60000 (length log)) refl (heavy (mended_tree log)) (either (ltb b (length (mended log).new)) (ltb 60000 (length (mended log).new)))
  where
    go : (x : Bool) → ltb 60000 (length log) ≡ x → (y u : Bool) → ◌≡◌ {A = ℕ} (pick x 5 (pick y 9 (pick u 30 (pick (ltb (w / 2) (length (mended log).list)) 31 0)))) 31 → ⊥
    go true e y u z = omega arith
    go false e true u z = omega arith
    go false e false true z = omega arith
    go false e false false z =
        let q = few log (ltb-false 60000 (length log) e) in
        let r : ltb (w / 2) (length (mended log).list) ≡ false = le-ltb (w / 2) (length (mended log).list) (omega arith) in
        let n : ◌≡◌ {A = ℕ} 0 31 = rw r at z in
        omega arith

-- how long the line of an entry is
pub keyed_long : (key : List ℕ) (first second line : ℕ) (words : List ℕ)
    → length (keyed_text key first second line words) ≡ length key + length words + length (decimal_text first) + length (decimal_text second) + length (decimal_text line) + 10
unfolding keyed_text
keyed_long key first second line words = simp length-append (omega arith)

-- the words of a reason at the front of 60 bytes
pub reason_front : (l : List ℕ) (n r : ℕ) (l' : List ℕ) → 60 ≤ length l → r ≡ placed l 0 (reason_text n) → l' ≡ printed l 0 (reason_text n) → (r ≤ length l') × (take r l' ≡ reason_text n)
reason_front l n r l' h p b = let f = front (reason_text n) (omega (arith, reason_size n)) (puts _ (p, b)) in (f.0, f.2)
