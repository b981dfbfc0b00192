use mathlib.Core.Path.{sym, ◌∙◌}
use Rattle.std.specs.Prelude.{Err}
use Rattle.vgm_file.proofs.HeaderLaws.{from_inside}
use Rattle.recording.specs.Whole.{start_in}
use Rattle.recording.proofs.FileLaws.{start_is, start_from}
use Rattle.recording.proofs.start.Goals as goal

pub behind_blocks-requires : goal.behind_blocks-requires
behind_blocks-requires c = from_inside c.args.b.now _ (sym c.start.ensures ∙ c.in-Ok.is)

pub returns-in-Ok : goal.returns-in-Ok
returns-in-Ok c =
    let e = sym c.start.ensures ∙ c.in-Ok.is in
    c.behind_blocks.ensures ∙ sym (start_from c.args.b.now _ e)

pub returns-in-Err : goal.returns-in-Err
unfolding start_in
returns-in-Err c = start_is c.args.b.now (Err c.in-Err.field-0) (sym c.start.ensures ∙ c.in-Err.is)
