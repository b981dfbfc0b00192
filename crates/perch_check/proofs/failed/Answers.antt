-- A VGM file, or a log. Assumes nothing.
use mathlib.Core.Path.{sym, ◌∙◌}
use Rattle.text_lines.proofs.Pieces.{puts_then}
use Rattle.perch_check.proofs.Sizes.{failed_file, failed_log}
use Rattle.perch_check.proofs.failed.Goals as goal

pub returns-then-is_file : goal.returns-then-is_file
returns-then-is_file c =
    let a = c.args in
    let e = sym c.is_file.ensures ∙ c.if-is_file.true in
    rw (failed_file a.log.now a.c e) c.file_refused.ensures

pub returns : goal.returns
returns c =
    let a = c.args in
    let e = sym c.is_file.ensures ∙ c.if-is_file.false in
    rw (failed_log a.log.now a.c e) (puts_then _ _ c.refused-b.ensures c.more.ensures)
