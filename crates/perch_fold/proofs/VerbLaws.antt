-- With 60,000 bytes lent every log that passes is folded, and only a log's own refusals are left. Assumes nothing.
use Rattle.std.specs.Prelude.{Result, Ok, Err}
use mathlib.Core.Path.{◌≡◌, refl, ap, sym, ◌∙◌}
use mathlib.Core.List.{List}
use Prim.Native.Nat.{ℕ, ◌≤◌}
use native.Mathlib.Omega.{arith}
use borrow.Author.Tests.{eq-eqb, ne_eqb, eqb-true, le-ltb}
use lib.Dec.{eqb}
use lib.ListN.{length}
use Rattle.arith.proofs.PickLaws.{pick_each}
use Rattle.log_rules.specs.Whole.{check_of}
use Rattle.log_passing.proofs.Passing.{clear}
use Rattle.log_fold.specs.declared.Folded.{Folded}
use Rattle.log_fold_rules.specs.Folding.{folded_log}
use Rattle.log_fold.specs.Answer.{fold_refusal, fold_of}
use Rattle.refusal.specs.declared.Refusal.{Refusal}
use Rattle.refusal.specs.Refusal.{refusal}
use Rattle.perch_fold.specs.Verb.{outcome_from, outcome_of, OutcomeIs}

pub finished : (a : Folded) → a.number ≡ 0 → outcome_from a ≡ Ok a.length
unfolding outcome_from
finished a h = rw (eq-eqb a.number 0 h)

pub refuses : (a : Folded) → (a.number ≡ 0 → ⊥) → outcome_from a ≡ Err (refusal a.number a.place)
unfolding outcome_from
refuses a h = rw (ne_eqb a.number 0 h)

-- the number, place and value of an outcome
outcome_is : (a : Folded) → OutcomeIs a (outcome_from a)
unfolding outcome_from
outcome_is a =
    pick_each (OutcomeIs a) (eqb a.number 0) (λ e. rw e (sym (eqb-true a.number 0 e), refl, refl)) (λ e. rw e (refl, refl, refl))

pub outcome_numbers : (a : Folded) (r : Result ℕ Refusal) → r ≡ outcome_from a → OutcomeIs a r
outcome_numbers a r e = rw e (outcome_is a)

module _ (log out : List ℕ) (room : 60000 ≤ length out) where
  pub folded_always : (check_of log).number ≡ 0 → outcome_of log out ≡ Ok (length (folded_log log))
  unfolding fold_of outcome_from
  folded_always h = rw (eq-eqb (check_of log).number 0 h, le-ltb (length out) (length log) (omega (arith, (clear log h).short)))

  refusal_is : ((check_of log).number ≡ 0 → ⊥) → fold_of log out ≡ fold_refusal (check_of log).number (check_of log).place
  unfolding fold_of
  refusal_is h = rw (ne_eqb (check_of log).number 0 h)

  pub refused_only : ((check_of log).number ≡ 0 → ⊥) → outcome_of log out ≡ Err (refusal (check_of log).number (check_of log).place)
  refused_only h = ap outcome_from (refusal_is h) ∙ refuses (fold_refusal (check_of log).number (check_of log).place) h
