-- Helper: nobody has to believe this; the contracts of the crate's own functions cite it.
use Rattle.std.specs.Prelude.{ℕ, ◌+◌, Bool, eqb}
use Rattle.arith.specs.Pick.{pick}
use Rattle.log_rules.specs.Whole.{check_refusal}
use Rattle.log_rules.specs.declared.Checked.{Checked}
use Rattle.vgm_measure.specs.declared.Tally.{Tally}

-- the check by the totals of the commands from a place on: 9 is at 0, any other refusal at a byte; each turn is an item, as there are no loops
unfoldable pub check_from : Bool → ℕ → Tally → Checked
check_from pal at t =
    pick (eqb t.number 0) (record { number = 0; place = 0; pal = pal; clocks = t.clocks; turns = t.turns; items = t.turns })
    (pick (eqb t.number 9) (check_refusal 9 0) (check_refusal t.number (at + t.place)))
