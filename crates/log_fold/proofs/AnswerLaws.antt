-- What `fold` answers, from the check and the pass. Assumes nothing.
use mathlib.Core.Path.{◌≡◌, refl, ap, ◌∙◌}
use mathlib.Core.List.{List}
use mathlib.Core.Bool.{Bool, true, false}
use Prim.Native.Nat.{ℕ, ◌≤◌, ◌<◌}
use borrow.Author.Tests.{eq-eqb, ne_eqb, lt-ltb, le-ltb, eqb-true, eqb-false}
use lib.ListN.{length, take, drop}
use lib.Dec.{eqb, ltb}
use lib.Seq.{take_at}
use Rattle.arith.specs.Pick.{pick}
use native.Mathlib.Omega.{arith}
use Rattle.text_print.specs.Printed.{Put}
use Rattle.log_rules.specs.declared.Checked.{Checked}
use Rattle.log_rules.specs.Tree.{turns}
use Rattle.log_rules.specs.Whole.{tree_of, check_of}
use Rattle.log_passing.proofs.Passing.{clear, passes}
use Rattle.log_fold.specs.declared.Folded.{Folded}
use Rattle.arith.specs.Over.{over}
use Rattle.log_fold.specs.Answer.{fold_refusal, fold_done, fold_of, fold_lent}
use Rattle.log_fold_rules.specs.Promise.{Folds}
use Rattle.log_fold_rules.proofs.Passes.{folds}
use Rattle.log_fold_rules.specs.Folding.{folded_log}
use Rattle.log_fold.proofs.PassLaws.{over_is}

module _ (log out : List ℕ) (k : Checked) (e : k ≡ check_of log) where
  pub refused : (k.number ≡ 0 → ⊥) → (fold_refusal k.number k.place ≡ fold_of log out) × (out ≡ fold_lent log out)
  unfolding fold_of fold_lent
  refused h = rw (← e, ne_eqb k.number 0 h) (refl, refl)

  module _ (z : k.number ≡ 0) where
    pub right : (check_of log).number ≡ 0
    right = rw e at z

    pub turns_are : k.turns ≡ turns (tree_of log)
    turns_are = ap (λ (x : Checked). x.turns) (e ∙ passes (clear log right))

    pub short : length out < length log → (fold_refusal 32 0 ≡ fold_of log out) × (out ≡ fold_lent log out)
    unfolding fold_of fold_lent
    short h = rw (← e, eq-eqb k.number 0 z, lt-ltb (length out) (length log) h) (refl, refl)

    pub finished : length log ≤ length out → (n : ℕ) (o : List ℕ) → Put out 0 (folded_log log) o n → (fold_done n ≡ fold_of log out) × (o ≡ fold_lent log out)
    unfolding fold_of fold_lent
    finished h n o w =
        rw (← e, eq-eqb k.number 0 z, le-ltb (length out) (length log) h) (ap fold_done (w.place ∙ omega arith), w.bytes ∙ over_is log out right h)

-- an answer of 0 says how long the log is that stands in front, and what is promised of it holds

front_is : (new old : List ℕ) → take (length new) (over new old) ≡ new
unfolding over
front_is new old = take_at new (drop (length new) old) (length new) refl

promise_of : (log out : List ℕ) → (fold_of log out).number ≡ 0 → Folds log (take (fold_of log out).length (fold_lent log out))
unfolding fold_of fold_lent
promise_of log out = go (eqb (check_of log).number 0) refl (ltb (length out) (length log))
  where
    go : (x : Bool) → eqb (check_of log).number 0 ≡ x → (y : Bool)
        → (pick x (pick y (fold_refusal 32 0) (fold_done (length (folded_log log)))) (fold_refusal (check_of log).number (check_of log).place)).number ≡ 0
        → Folds log (take (pick x (pick y (fold_refusal 32 0) (fold_done (length (folded_log log)))) (fold_refusal (check_of log).number (check_of log).place)).length (pick x (pick y out (over (folded_log log) out)) out))
    go true e true h = absurd (omega arith)
    go true e false h = rw (front_is (folded_log log) out) (folds log (eqb-true (check_of log).number 0 e))
    go false e y h = absurd (eqb-false (check_of log).number 0 e h)

pub promised : (log out : List ℕ) (r : Folded) (o : List ℕ) → r ≡ fold_of log out → o ≡ fold_lent log out → r.number ≡ 0 → Folds log (take r.length o)
promised log out r o e f h = rw (e, f) (promise_of log out (rw e at h))
