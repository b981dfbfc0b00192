-- What `fold` answers, and what stands in the lent bytes afterwards.
use Rattle.std.specs.Prelude.{ℕ, List, length, eqb, ltb}
use Rattle.arith.specs.Over.{over}
use Rattle.arith.specs.Pick.{pick}
use Rattle.log_rules.specs.Whole.{check_of}
use Rattle.log_fold.specs.declared.Folded.{Folded}
use Rattle.log_fold_rules.specs.Folding.{folded_log}

abbrev pub fold_refusal : ℕ → ℕ → Folded
fold_refusal k p = record { number = k; place = p; length = 0 }

abbrev pub fold_done : ℕ → Folded
fold_done n = record { number = 0; place = 0; length = n }

-- "Refusals: the log's own first, then 32 for a buffer shorter than the original", at 0
unfoldable pub fold_of : List ℕ → List ℕ → Folded
fold_of log out =
    pick (eqb (check_of log).number 0)
    (pick (ltb (length out) (length log)) (fold_refusal 32 0) (fold_done (length (folded_log log))))
    (fold_refusal (check_of log).number (check_of log).place)

-- "Rewrite a passing log into a second buffer"; refused, "leaving it untouched"
unfoldable pub fold_lent : List ℕ → List ℕ → List ℕ
fold_lent log out =
    pick (eqb (check_of log).number 0)
    (pick (ltb (length out) (length log)) out (over (folded_log log) out))
    out
