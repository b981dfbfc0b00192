use native.Mathlib.Omega.{arith}
use borrow.Author.Tests.{ne_eqb}
use mathlib.Core.Path.{sym, ◌∙◌}
use Rattle.log_body.proofs.PartLaws.{body_unread}
use Rattle.c_log.specs.Logs.{body_value}
use Rattle.c_log.proofs.PackedLaws.{body_value_is}
use Rattle.c_log.proofs.body_value.Goals as goal

pub returns-then-number-ne0 : goal.returns-then-number-ne0
unfolding body_value
returns-then-number-ne0 c =
    (rw (ne_eqb _ 0 (rw c.requires at c.if-number-ne0.true)), omega arith)

pub returns-in_default : goal.returns-in_default
returns-in_default c =
    let h = sym c.requires ∙ c.if-number-ne0.false in
    absurd (body_unread c.args.log.now c.args.offset h _ (sym c.read.ensures.value ∙ c.in_default.is))

pub returns : goal.returns
returns c =
    body_value_is c.args.log.now c.args.offset (sym c.requires ∙ c.if-number-ne0.false) _ _
    (sym c.read.ensures.value ∙ c.in-Ok.is) _ c.body-part.ensures

pub overflow_mul-result : goal.overflow_mul-result
overflow_mul-result c = let h = (returns c).1 in record { fits = omega arith }

pub overflow_add-result : goal.overflow_add-result
overflow_add-result c = let h = (returns c).1 in record { fits = omega arith }
