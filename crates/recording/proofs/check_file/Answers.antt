use mathlib.Core.Path.{sym, ◌∙◌}
use Rattle.vgm_file.proofs.HeaderLaws.{from_inside}
use Rattle.recording.proofs.CheckLaws.{file_long, file_part}
use Rattle.recording.proofs.check_file.Goals as goal

pub returns-then-b-gt524288 : goal.returns-then-b-gt524288
returns-then-b-gt524288 c = c.refused.ensures ∙ file_long c.args.b.now c.if-b-gt524288.true

pub check_part-requires : goal.check_part-requires
check_part-requires c = from_inside c.args.b.now _ (sym c.start.ensures ∙ c.in-Ok.is)

pub returns-in-Ok : goal.returns-in-Ok
returns-in-Ok c =
    let e = sym c.in-Ok.is ∙ c.start.ensures in
    c.check_part.ensures ∙ file_part c.args.b.now _ c.if-b-gt524288.false e
