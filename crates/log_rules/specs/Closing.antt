-- Helper: nobody has to believe this; what the code answers; proved to be `check_of` (proofs/CheckLaws).
-- The check as the code makes it, from the machine and the block that the lines behind the log's head came to. That this is `check_of` is proved.
use Rattle.std.specs.Prelude.{ℕ, Bool, eqb, ltb, Result, Ok, Err}
use Rattle.refusal.specs.declared.Refusal.{Refusal}
use Rattle.arith.specs.Pick.{pick}
use Rattle.log_rules.specs.declared.Totals.{Totals}
use Rattle.log_rules.specs.declared.Block.{Block}
use Rattle.log_rules.specs.declared.Block.TheVariants.{Closed, Stopped}
use Rattle.log_rules.specs.declared.Checked.{Checked}
use Rattle.log_rules.specs.Whole.{check_refusal}

-- the answer of a check that passes or has a refusal
abbrev pub flat : Result Checked Refusal → Checked
flat (Ok c) = c
flat (Err e) = check_refusal e.number e.place

abbrev pub totalled : Bool → Totals → Checked
totalled m t = record { number = 0; place = 0; pal = m; clocks = t.clocks; turns = t.turns; items = t.items }

abbrev pub limited : Bool → Totals → ℕ → ℕ → Checked
limited m t p n =
    pick (ltb 2000000000 t.clocks) (check_refusal 9 p)
    (pick (ltb 1000000 t.turns) (check_refusal 9 p)
    (pick (eqb n t.clocks) (totalled m t) (check_refusal 10 p)))

abbrev pub closing : Bool → ℕ → Result Block Refusal → Checked
closing m length (Ok (Closed p q t)) = check_refusal 18 q
closing m length (Ok (Stopped p q n t)) = pick (ltb q length) (check_refusal 19 q) (limited m t p n)
closing m length (Err e) = check_refusal e.number e.place
