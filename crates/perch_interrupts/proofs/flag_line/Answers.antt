use mathlib.Core.Path.{sym, ◌∙◌}
use Rattle.arith.proofs.PickLaws.{flag_number}
use Rattle.text_lines.proofs.Pieces.{puts, puts_none}
use Rattle.perch_interrupts.proofs.Sizes.{flag_none, flag_some}
use Rattle.perch_interrupts.proofs.flag_line.Goals as goal

pub returns-then-same_flag : goal.returns-then-same_flag
returns-then-same_flag c =
    let a = c.args in
    rw (flag_none a.key.now a.time a.before a.after (sym c.same_flag.ensures ∙ c.if-same_flag.true)) puts_none

pub returns : goal.returns
returns c =
    let a = c.args in
    rw (flag_some a.key.now a.time a.before a.after (sym c.same_flag.ensures ∙ c.if-same_flag.false))
    (puts _ (rw (c.from.ensures, flag_number c.args.after) at c.pair_line.ensures.value, rw (c.from.ensures, flag_number c.args.after) at c.pair_line.ensures.out_after))
