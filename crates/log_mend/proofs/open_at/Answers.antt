use Rattle.std.proofs.Common.{◌≡◌, min, take, refl}
use Rattle.std.proofs.lemmas.List.{take_min}
use Rattle.log_mend.proofs.NestLaws.{marks, none_open, some_open}
use Rattle.log_mend.proofs.open_at.Goals as goal

pub returns-then-depth-eq0 : goal.returns-then-depth-eq0
returns-then-depth-eq0 c =
    let log = c.args.log.now in
    let e : take c.min.result log ≡ take c.args.place log = rw c.min.ensures (take_min c.args.place log) in
    none_open (marks 0 log c.args.place _ e c.nested-depth.result c.nested-depth.ensures) c.if-depth-eq0.true

pub returns-else-depth-eq0 : goal.returns-else-depth-eq0
returns-else-depth-eq0 c =
    let log = c.args.log.now in
    let e : take c.min.result log ≡ take c.args.place log = rw c.min.ensures (take_min c.args.place log) in
    some_open (marks 0 log c.args.place _ e c.nested-depth.result c.nested-depth.ensures) c.if-depth-eq0.false refl
    (marks c.nested-depth.result.depth log c.args.place _ e c.nested.result c.nested.ensures)
