-- With a refusal there is no body, `body_none`; else the loop line is read (`body_unread`), its block read (`body_got`) and closed (`body_closed`), and the part between is `body_part`. Assumes nothing.
use Rattle.std.proofs.Common.{sym, ◌∙◌, arith}
use Rattle.log_body.proofs.PartLaws.{body_none, body_unread, body_got, body_closed, body_part}
use Rattle.log_body.proofs.body.Goals as goal

pub returns-then-body_check-ne0 : goal.returns-then-body_check-ne0
returns-then-body_check-ne0 c = body_none c.args.log.now c.args.offset (rw c.body_check.ensures at c.if-body_check-ne0.true)

pub returns-in_default : goal.returns-in_default
returns-in_default c =
    let log = c.args.log.now in
    let o = c.args.offset in
    let h = rw c.body_check.ensures at c.if-body_check-ne0.false in
    absurd (body_unread log o h _ (sym c.read.ensures.value ∙ c.in_default.is))

pub returns-in_default-read_block : goal.returns-in_default-read_block
returns-in_default-read_block c =
    let log = c.args.log.now in
    let o = c.args.offset in
    let h = rw c.body_check.ensures at c.if-body_check-ne0.false in
    absurd
    (body_got log o h c.in-Ok.field-0-0 c.in-Ok.from _ (sym c.read.ensures.value ∙ c.in-Ok.is) c.read_block.ensures.value c.in_default-read_block.not-Ok)

pub returns-in_default-block : goal.returns-in_default-block
returns-in_default-block c =
    let log = c.args.log.now in
    let o = c.args.offset in
    let h = rw c.body_check.ensures at c.if-body_check-ne0.false in
    absurd
    (body_closed log o h c.in-Ok.field-0-0 c.in-Ok.from _ (sym c.read.ensures.value ∙ c.in-Ok.is) c.in-Ok-read_block.ensures.value c.in_default-block.not-Closed)

pub slice_bounds-result-count-2 : goal.slice_bounds-result-count-2
slice_bounds-result-count-2 c =
    let log = c.args.log.now in
    let o = c.args.offset in
    let h = rw c.body_check.ensures at c.if-body_check-ne0.false in
    let p =
    body_part log o h c.in-Ok.field-0-0 c.in-Ok.from c.in-Closed.to c.in-Closed.field-1 c.in-Closed.field-2 (sym c.read.ensures.value ∙ c.in-Ok.is)
    (rw c.in-Closed.is at c.in-Ok-read_block.ensures.value) in
    omega (arith, p.0, p.1)

pub slice_bounds-result-start-2 : goal.slice_bounds-result-start-2
slice_bounds-result-start-2 c =
    let log = c.args.log.now in
    let o = c.args.offset in
    let h = rw c.body_check.ensures at c.if-body_check-ne0.false in
    let p =
    body_part log o h c.in-Ok.field-0-0 c.in-Ok.from c.in-Closed.to c.in-Closed.field-1 c.in-Closed.field-2 (sym c.read.ensures.value ∙ c.in-Ok.is)
    (rw c.in-Closed.is at c.in-Ok-read_block.ensures.value) in
    omega (arith, p.0, p.1)

pub slice_bounds-result-end-2 : goal.slice_bounds-result-end-2
slice_bounds-result-end-2 c =
    let log = c.args.log.now in
    let o = c.args.offset in
    let h = rw c.body_check.ensures at c.if-body_check-ne0.false in
    let p =
    body_part log o h c.in-Ok.field-0-0 c.in-Ok.from c.in-Closed.to c.in-Closed.field-1 c.in-Closed.field-2 (sym c.read.ensures.value ∙ c.in-Ok.is)
    (rw c.in-Closed.is at c.in-Ok-read_block.ensures.value) in
    omega (arith, p.0, p.1)

pub returns : goal.returns
returns c =
    let log = c.args.log.now in
    let o = c.args.offset in
    let h = rw c.body_check.ensures at c.if-body_check-ne0.false in
    let p =
    body_part log o h c.in-Ok.field-0-0 c.in-Ok.from c.in-Closed.to c.in-Closed.field-1 c.in-Closed.field-2 (sym c.read.ensures.value ∙ c.in-Ok.is)
    (rw c.in-Closed.is at c.in-Ok-read_block.ensures.value) in
    p.2
