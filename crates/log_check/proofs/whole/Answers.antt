use Rattle.std.proofs.Common.{Bool, Ok, sym, ap, subst, length, ◌∙◌}
use Rattle.std.proofs.lemmas.Result.{err_from_is_err_and}
use Rattle.log_rules.specs.Head.{machine_of}
use Rattle.log_rules.specs.Closing.{closing}
use Rattle.log_rules.proofs.CheckLaws.{CheckedBy, checked_by}
use Rattle.log_check.proofs.whole.Goals as goal

pub returns-in_err-read : goal.returns-in_err-read
returns-in_err-read c =
    let p = err_from_is_err_and c.from_residual.result c.from_residual.ensures.1 in
    rw (p.1, p.2) (subst (CheckedBy c.args.log.now) (sym c.in_err-read.ensures.value) (checked_by c.args.log.now))

pub returns-in_err-read_block : goal.returns-in_err-read_block
returns-in_err-read_block c =
    let log = c.args.log.now in
    let p = err_from_is_err_and c.from_residual-in_err-read_block.result c.from_residual-in_err-read_block.ensures.1 in
    rw (p.1, p.2)
    (ap (closing (machine_of log) (length log)) (rw c.start.ensures at c.in_err-read_block.ensures.value)
    ∙ subst (CheckedBy log) (sym c.in_ok-read.ensures.value) (checked_by log))

pub returns : goal.returns
returns c =
    let log = c.args.log.now in
    c.closed.ensures
    ∙ (ap (λ (m : Bool). closing m (length log) (Ok c.in_ok-read_block.field-0)) c.is_pal.ensures
    ∙ (ap (closing (machine_of log) (length log)) (rw c.start.ensures at c.in_ok-read_block.ensures.value)
    ∙ subst (CheckedBy log) (sym c.in_ok-read.ensures.value) (checked_by log)))
